pub mod Faults
pub mod Bins
pub mod Wires
pub mod Modules
pub mod Histories
pub mod Laws
pub mod Streams
