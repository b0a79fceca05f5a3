pub mod Changing
pub mod Indexes
pub mod Settling
pub mod Crosses
pub mod Refused
pub mod Counts
pub mod Positions
pub mod Reading
