pub mod Pairing
pub mod Calling
pub mod Dropping
pub mod Carrying
pub mod Reading
