pub mod Stopped
pub mod Lowered
pub mod Highest
pub mod Bases
pub mod Deltas
pub mod Lanes
mod Steps
pub mod Examples
