pub mod Canon
pub mod Merging
pub mod Nearest
pub mod Order
pub mod Putting
pub mod Weights
pub mod Crosses
pub mod Chosen
