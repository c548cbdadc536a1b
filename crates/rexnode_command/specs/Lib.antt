pub mod Application
pub mod Command
pub mod Reading
pub mod Laws
