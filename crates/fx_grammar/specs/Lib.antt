pub mod Agree
pub mod Grammars
pub mod Refused
pub mod Texts
pub mod TokenLevels
pub mod Tokens
