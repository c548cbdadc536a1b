mod Examples
pub mod Lists
pub mod Numbers
mod Places
