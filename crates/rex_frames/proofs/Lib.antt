pub mod Collecting
mod Examples
pub mod Heard
pub mod ReadBack
pub mod Rows
pub mod Typed
