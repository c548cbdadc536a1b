pub mod Recording
pub mod Due
pub mod Outcome
