pub mod Lanes
pub mod Counts
pub mod First
pub mod Clocks
pub mod Laws
