pub mod Allowed
pub mod Lists
pub mod Counting
pub mod Bytes
pub mod KindLaws
pub mod Versions
pub mod EventLaws
pub mod EventsAgain
pub mod Written
pub mod CanWrite
pub mod Examples
mod Looking
mod Silent
mod Passing
mod Tallies
