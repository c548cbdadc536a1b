mod Arming
mod BytesLaws
mod Calm
mod Closing
mod Committing
mod Empty
mod Examples
pub mod Making
mod Refusing
mod Reopening
mod Same
mod Settled
mod Spelled
mod Steps
