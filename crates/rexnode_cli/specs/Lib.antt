pub mod Loading
pub mod Statuses
pub mod Running
pub mod Tracing
