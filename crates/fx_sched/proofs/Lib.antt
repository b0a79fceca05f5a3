pub mod Counts
pub mod Ends
pub mod Records
pub mod Rooms
pub mod Shells
pub mod Takings
pub mod Worlds
