pub mod Answering
pub mod Faults
pub mod Halts
pub mod Implements
pub mod Arguments
pub mod Scopes
pub mod Places
