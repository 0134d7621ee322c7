pub mod Stamped
pub mod Rowed
pub mod Standing
pub mod Turns
pub mod Admitted
pub mod Playing
pub mod Planned
