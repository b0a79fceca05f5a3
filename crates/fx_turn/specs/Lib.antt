pub mod Histories
pub mod Places
pub mod Plays
pub mod Rule
pub mod Seats
pub mod Views
