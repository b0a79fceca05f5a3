pub mod Descriptions
pub mod Reading
pub mod Scripts
