pub mod Numbered
pub mod Replies
pub mod Traced
