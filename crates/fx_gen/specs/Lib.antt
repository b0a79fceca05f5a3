pub mod Draws
pub mod Notes
pub mod Scripts
pub mod Trees
