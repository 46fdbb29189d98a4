pub mod Slots
pub mod Once
pub mod Trees
pub mod Lists
pub mod Found
