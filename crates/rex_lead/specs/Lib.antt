pub mod Lead
pub mod Doing
