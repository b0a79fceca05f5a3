pub mod Crosses
pub mod Fresh
pub mod Looks
pub mod Pasts
mod Rooms
mod Searched
mod Taken
mod Takings
pub mod Truths
mod Versionings
