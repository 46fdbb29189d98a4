pub mod Ascii
mod Spelling
mod Examples
