pub mod Orders
pub mod Recovered
pub mod Rows
pub mod Stages
pub mod Unread
pub mod Wrong
