pub mod Cutting
pub mod Described
pub mod Lined
pub mod Names
pub mod Placing
pub mod Ranges
pub mod Scripted
pub mod Wholes
