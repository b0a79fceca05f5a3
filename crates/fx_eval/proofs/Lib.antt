pub mod Closing
pub mod Globbing
