pub mod Bound
pub mod Numerals
pub mod Shaping
pub mod Trees
pub mod Crosses
