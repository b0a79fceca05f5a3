pub mod Descriptions
pub mod Scripts
