pub mod Chained
pub mod Giving
pub mod Known
