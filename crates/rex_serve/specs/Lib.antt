pub mod Answering
pub mod Serving
pub mod Standing
pub mod Cluster
pub mod Early
pub mod Laws
