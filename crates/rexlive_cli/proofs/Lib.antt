pub mod Gives
pub mod Worded
pub mod Played
pub mod Said
