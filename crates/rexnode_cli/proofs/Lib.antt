pub mod Kept
pub mod Ran
pub mod Refusals
