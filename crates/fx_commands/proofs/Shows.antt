pub mod Alone
pub mod Completing
pub mod Showing
