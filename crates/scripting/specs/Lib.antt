pub mod Words
pub mod Numerals
pub mod Readings
pub mod Script
pub mod Notes
pub mod Calls
pub mod Benches
