pub mod Commands
pub mod Due
pub mod Causes
pub mod Headline
pub mod Response
pub mod Worlds
