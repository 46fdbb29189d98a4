pub mod Scanning
pub mod Found
pub mod Judging
pub mod Standing
pub mod Fronts
pub mod Readings
pub mod Taking
