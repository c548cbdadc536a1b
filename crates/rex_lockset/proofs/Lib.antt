pub mod Same
pub mod Bounds
pub mod Forms
pub mod Noted
pub mod Followed
pub mod Reached
pub mod Sound
pub mod Flows
pub mod Complete
pub mod Law
pub mod There
mod Examples
