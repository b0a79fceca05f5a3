pub mod Completing
pub mod Ending
pub mod Stages
pub mod Tracing
pub mod Watching
