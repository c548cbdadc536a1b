pub mod Decoding
pub mod Ranges
pub mod Reading
pub mod Spelling
