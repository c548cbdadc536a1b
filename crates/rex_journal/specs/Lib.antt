pub mod Giving
pub mod Journal
pub mod Keeping
pub mod Laws
pub mod Opening
pub mod Storing
pub mod StoringLaws
