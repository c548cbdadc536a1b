mod Allowing
mod Imaging
pub mod Moments
mod Recorded
