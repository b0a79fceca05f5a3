pub mod Base
pub mod Case
pub mod GenRows
pub mod LargeRows
pub mod Summary
pub mod Wrote
