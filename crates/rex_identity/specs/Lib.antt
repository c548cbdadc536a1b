pub mod Identity
pub mod Claims
pub mod Laws
