pub mod Trees
pub mod View
pub mod Fresh
pub mod Entered
pub mod Calls
pub mod Asking
pub mod Worked
