pub mod Beyond
pub mod Joined
pub mod Conflicts
pub mod Kept
pub mod Beneath
pub mod Direct
pub mod First
pub mod Right
pub mod Least
pub mod Fits
pub mod Once
pub mod Reduced
mod Steps
mod NoWakers
mod Places
mod Covers
pub mod Examples
