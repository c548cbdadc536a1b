mod Examples
pub mod Found
pub mod Spellings
pub mod Splits
