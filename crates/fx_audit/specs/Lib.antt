pub mod Audits
pub mod Legal
pub mod Orders
pub mod Places
pub mod Present
pub mod Retries
pub mod Verdicts
