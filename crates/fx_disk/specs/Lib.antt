pub mod Silent
pub mod Held
