-- That both placers keep the duties. It stands here since the duties are members of a placer, and a member may cite specs alone.
pub mod Rooms
pub mod Inputs
pub mod Times
pub mod Counts
