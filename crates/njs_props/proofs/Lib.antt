pub mod Copied
pub mod Filed
pub mod Indices
pub mod Written
