pub mod Sized
pub mod Statements
pub mod Functions
pub mod Walked
pub mod Generated
