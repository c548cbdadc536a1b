pub mod Limits
pub mod Conflict
pub mod Order
pub mod Cuts
pub mod Causes
pub mod Pieces
