pub mod Refusing
pub mod Served
pub mod Traces
