pub mod Behind
pub mod Bodies
pub mod Descents
pub mod Flagging
pub mod Lining
pub mod Linking
pub mod Making
pub mod Mixing
pub mod Naming
pub mod Parents
pub mod PlaceTexts
mod Prelude
pub mod Reaching
pub mod Rests
pub mod Searching
pub mod Shapes
mod TableExamples
pub mod TableFronts
pub mod TableLines
pub mod TableLinks
pub mod TableSpelling
pub mod TableTexts
pub mod Unspelled
pub mod Versions
