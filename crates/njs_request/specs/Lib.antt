pub mod Answering
pub mod EntryObjects
pub mod Response
pub mod Return
pub mod Rows
pub mod Tells
