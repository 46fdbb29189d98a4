mod Cutting
mod LineEnds
mod Lookups
mod NextItems
mod Places
mod Reading
mod Symbols
