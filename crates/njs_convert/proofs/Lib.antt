mod Answering
mod Lookups
pub mod Stopped
pub mod Outcomes
mod Messages
pub mod Grown
mod Made
pub mod Thrown
mod ShownTexts
mod FirstSteps
mod FirstEnds
