pub mod Left
pub mod Moves
pub mod Recorded
pub mod Running
pub mod Shells
pub mod Taking
pub mod Traced
pub mod World
