pub mod Checking
pub mod Rests
pub mod Texts
