pub mod Calls
pub mod Courses
pub mod Halting
pub mod ArgumentsLemmas
pub mod Sizes
