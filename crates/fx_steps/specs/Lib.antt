pub mod Steps
pub mod Parts
pub mod Telling
pub mod Around
pub mod Frames
pub mod Spots
