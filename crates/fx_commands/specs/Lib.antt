pub mod Audits
pub mod Recoveries
pub mod Shows
