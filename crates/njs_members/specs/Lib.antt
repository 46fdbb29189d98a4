pub mod Gains
pub mod Listed
pub mod Own
pub mod Starts
pub mod Tells
pub mod Tests
