pub mod Content
pub mod Gives
pub mod Scopes
pub mod StandsFor
pub mod Walks
pub mod Created
