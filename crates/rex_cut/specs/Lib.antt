pub mod Greatest
pub mod Delta
pub mod Laws
pub mod Traces
