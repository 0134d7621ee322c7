pub mod Script
pub mod Kinds
pub mod Benches
pub mod Desks
pub mod Lists
