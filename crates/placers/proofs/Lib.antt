pub mod Tables
pub mod Passing
pub mod Legality
