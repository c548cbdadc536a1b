pub mod Processes
pub mod Laws
pub mod Early
pub mod Tested
pub mod Leading
pub mod Plain
