mod Closings
mod Crosses
pub mod Viewings
