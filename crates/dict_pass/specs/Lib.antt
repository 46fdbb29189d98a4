pub mod Callers
pub mod Later
pub mod Rounds
