pub mod Lists
pub mod Runs
pub mod Numbered
pub mod Extensions
pub mod Edges
pub mod Enabled
mod Examples
