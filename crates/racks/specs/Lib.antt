pub mod Faults
pub mod Bins
pub mod Plans
pub mod Places
pub mod Rings
pub mod Chains
pub mod Answers
pub mod Sequences
