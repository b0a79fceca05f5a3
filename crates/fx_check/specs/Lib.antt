pub mod Faults
pub mod Shaped
pub mod Checked
pub mod Scopes
pub mod Gives
pub mod Fitting
pub mod Laws
