pub mod Spellings
pub mod Runs
