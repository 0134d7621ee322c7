pub mod Marked
pub mod LiftRows
