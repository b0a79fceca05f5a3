pub mod Ending
pub mod Finishing
pub mod Keeping
pub mod Completing
