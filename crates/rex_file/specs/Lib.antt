pub mod Faults
pub mod FileCalls
pub mod Inside
pub mod Mixing
pub mod MixingLaws
