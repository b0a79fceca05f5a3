pub mod Again
pub mod Link
pub mod Machine
pub mod Means
pub mod Reading
pub mod Texts
