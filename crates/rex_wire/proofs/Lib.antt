pub mod Fields
pub mod Numbers
pub mod Ranges
pub mod Repeated
pub mod Lists
pub mod Values
pub mod Whole
pub mod Written
