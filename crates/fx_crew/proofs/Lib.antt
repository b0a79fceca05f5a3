mod Orders
mod Steps
mod Attempts
pub mod Gathers
pub mod Works
