pub mod Lists
pub mod Reader
