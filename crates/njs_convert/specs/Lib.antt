pub mod Answering
pub mod FirstHeap
pub mod FirstRows
pub mod Tells
pub mod Tests
pub mod Texts
