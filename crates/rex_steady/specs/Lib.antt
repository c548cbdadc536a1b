pub mod Schedule
pub mod Blocks
pub mod Settled
pub mod Steady
