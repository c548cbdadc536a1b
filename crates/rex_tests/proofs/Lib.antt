pub mod Begins
pub mod Boards
pub mod Fronts
