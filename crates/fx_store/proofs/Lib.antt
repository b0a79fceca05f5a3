pub mod Asks
pub mod Quiet
pub mod Landings
pub mod Examples
mod NameTests
pub mod Ascending
pub mod Placing
mod Sets
pub mod Stores
pub mod Tables
pub mod WholeStores
pub mod Relisted
pub mod Overlays
pub mod SpellingLaws
pub mod Crosses
pub mod PathLists
pub mod Passing
pub mod Components
