pub mod Print
pub mod Readable
pub mod Report
pub mod Views
pub mod Entries
pub mod Events
pub mod Traced
