pub mod Elected
pub mod Knowing
pub mod WordSeats
