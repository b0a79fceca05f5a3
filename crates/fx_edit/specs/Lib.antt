pub mod Edits
pub mod Rules
pub mod Kinds
pub mod Values
