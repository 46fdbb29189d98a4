pub mod Uses
pub mod Planned
pub mod Walked
