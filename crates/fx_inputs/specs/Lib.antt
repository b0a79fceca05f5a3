pub mod Causes
pub mod Inputs
pub mod ReadTexts
pub mod Readings
pub mod Reads
pub mod Views
