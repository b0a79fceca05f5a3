pub mod Working
pub mod Workers
