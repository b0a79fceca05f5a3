pub mod Held
pub mod Lengths
pub mod Taken
