pub mod Journal
pub mod Spelled
pub mod Keeping
pub mod Opening
pub mod Appending
pub mod Laws
