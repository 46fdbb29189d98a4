pub mod Head
pub mod Fields
pub mod Rules
pub mod Requests
pub mod Deciding
pub mod Keeping
pub mod Reader
pub mod Laws
