pub mod There
pub mod Judged
pub mod Ended
