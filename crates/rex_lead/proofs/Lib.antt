pub mod Doings
pub mod Blocks
pub mod Histories
pub mod Next
