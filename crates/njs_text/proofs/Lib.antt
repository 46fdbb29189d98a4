pub mod Encoded
pub mod Finding
pub mod Places
