pub mod Simple
pub mod Fits
pub mod Walking
pub mod Taken
pub mod Refused
pub mod Examples
