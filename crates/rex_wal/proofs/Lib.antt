pub mod BytesLaws
mod Calls
mod Making
mod Settled
mod Spelling
