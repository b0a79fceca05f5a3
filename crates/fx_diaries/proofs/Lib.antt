pub mod Attempting
pub mod Closing
mod Following
pub mod Growing
pub mod Looks
mod Merging
pub mod Named
mod Naming
pub mod Runs
