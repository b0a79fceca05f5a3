pub mod Log
pub mod Index
pub mod Board
pub mod Growing
pub mod Positions
pub mod Present
