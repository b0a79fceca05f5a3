pub mod Machine
pub mod Means
pub mod Link
pub mod Again
pub mod Reading
pub mod Star
pub mod Texts
pub mod Places
