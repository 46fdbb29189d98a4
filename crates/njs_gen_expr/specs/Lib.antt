pub mod Counted
pub mod Written
pub mod References
pub mod Parts
pub mod Trees
