pub mod Deep
pub mod Unlexed
pub mod Wholes
