pub mod Around
pub mod Walk
