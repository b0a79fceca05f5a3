pub mod Holding
pub mod Appending
pub mod Taking
mod Naming
mod Renaming
pub mod Ending
pub mod Fronts
