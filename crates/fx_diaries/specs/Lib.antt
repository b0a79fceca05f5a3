pub mod Diaries
pub mod Laws
pub mod Looks
pub mod Named
pub mod Runs
