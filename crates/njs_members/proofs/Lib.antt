pub mod Chained
pub mod Gained
pub mod InstanceOf
pub mod Listing
pub mod Started
pub mod Told
pub mod Walked
