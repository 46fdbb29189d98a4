mod Ends
mod Digits
pub mod Safe
mod Examples
