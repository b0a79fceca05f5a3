pub mod Rows
pub mod Stages
