pub mod Kept
pub mod Written
pub mod Taken
pub mod Keeping
pub mod Recorded
pub mod Laws
