pub mod Spelling
pub mod Reading
pub mod Laws
pub mod Writing
pub mod Parts
pub mod Counts
pub mod Alone
pub mod Replying
