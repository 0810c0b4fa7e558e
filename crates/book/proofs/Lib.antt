pub mod Replies
pub mod Judging
pub mod Questions
pub mod Asking
pub mod Seeking
pub mod Runs
