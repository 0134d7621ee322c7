pub mod Rules
pub mod Picks
pub mod Tables
pub mod Ringed
pub mod RowCalls
pub mod Chained
pub mod Shifts
pub mod Order
