pub mod Groups
pub mod Keeping
pub mod Laws
pub mod Places
