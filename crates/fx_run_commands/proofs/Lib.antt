pub mod Journals
pub mod Runs
