pub mod Caused
pub mod Soaking
mod Examples
