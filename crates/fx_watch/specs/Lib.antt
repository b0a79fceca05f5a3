pub mod Lines
pub mod Outcome
pub mod Validity
pub mod WatchView
pub mod Watching
