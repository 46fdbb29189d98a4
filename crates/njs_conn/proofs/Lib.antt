pub mod Writing
pub mod Refusals
pub mod Serving
pub mod Building
pub mod FirstForm
pub mod Replies
