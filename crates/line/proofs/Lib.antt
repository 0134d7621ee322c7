pub mod Absent
pub mod Answered
pub mod Chains
pub mod Following
pub mod Held
pub mod OneLeg
pub mod Standing
