pub mod Floor
pub mod Laws
pub mod Desk
pub mod Tally
pub mod Lent
pub mod Places
pub mod Halting
