pub mod Log
pub mod Messages
pub mod Laws
