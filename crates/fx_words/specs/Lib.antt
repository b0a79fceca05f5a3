pub mod Forms
pub mod Matched
pub mod Parser
pub mod WordsOf
pub mod Job
pub mod JobOf
