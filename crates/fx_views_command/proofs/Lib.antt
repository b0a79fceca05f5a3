pub mod Completing
pub mod Ending
pub mod Stages
mod Tracing
