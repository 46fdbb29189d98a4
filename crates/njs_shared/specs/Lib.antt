pub mod Heap
pub mod Fits
pub mod Lengths
pub mod Ends
