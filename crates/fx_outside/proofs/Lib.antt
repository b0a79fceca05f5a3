pub mod Sorted
pub mod Trees
pub mod Whole
pub mod Views
pub mod Pieces
