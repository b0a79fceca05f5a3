pub mod CaseEntries
pub mod Ending
pub mod Naming
pub mod Standing
pub mod Sums
pub mod Tables
pub mod Writings
