pub mod Leads
pub mod Numbered
pub mod Counts
pub mod First
pub mod Past
pub mod Order
