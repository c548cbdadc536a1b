pub mod Refusals
pub mod Due
pub mod Causes
pub mod Outcome
