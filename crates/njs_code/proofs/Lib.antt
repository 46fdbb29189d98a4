pub mod Facts
pub mod Ops
pub mod Outwards
