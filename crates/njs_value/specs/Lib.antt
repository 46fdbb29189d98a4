pub mod Number
pub mod Object
pub mod Ends
