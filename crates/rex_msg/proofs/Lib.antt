pub mod Allowed
pub mod Proposals
pub mod ContentLaws
pub mod ContentAgain
pub mod MessageLaws
pub mod MessageAgain
mod Examples
