pub mod Rounds
pub mod Work
pub mod Jobs
pub mod Dealing
