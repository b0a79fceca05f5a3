pub mod OneLine
pub mod Rows
pub mod Spelling
pub mod Steps
pub mod Logs
pub mod Tracing
pub mod Writing
