pub mod Begun
pub mod Viewed
pub mod Recovering
pub mod Limits
pub mod Twice
pub mod Totals
pub mod Above
