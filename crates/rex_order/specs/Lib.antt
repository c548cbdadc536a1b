pub mod Extensions
pub mod Edges
pub mod Enabled
pub mod Laws
