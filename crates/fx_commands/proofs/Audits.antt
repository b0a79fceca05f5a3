pub mod Auditing
pub mod Completing
