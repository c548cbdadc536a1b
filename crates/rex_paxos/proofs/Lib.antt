pub mod Counted
mod Examples
pub mod Reports
pub mod Taken
