pub mod Walks
pub mod Events
pub mod Fits
pub mod Modes
pub mod Keep
pub mod Placed
pub mod Queued
pub mod Served
pub mod Starts
pub mod Run
pub mod Sounds
pub mod Rooms
pub mod Live
pub mod Touched
mod Examples
mod Changes
pub mod Apart
mod Meet
mod Disjoint
pub mod Commute
pub mod Reorder
pub mod Cuts
pub mod Local
pub mod Names
pub mod Counts
