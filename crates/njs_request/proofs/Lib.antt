mod Answering
mod Entry
mod Examples
pub mod Faring
mod Growth
mod Heads
pub mod Hosting
pub mod Keeping
mod Telling
