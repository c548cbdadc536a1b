pub mod Answering
pub mod Asking
pub mod Frames
pub mod Hearing
pub mod Laws
pub mod Requests
