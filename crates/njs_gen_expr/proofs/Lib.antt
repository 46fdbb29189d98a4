pub mod Depths
pub mod Drafts
pub mod ListShapes
pub mod Lists
pub mod Nodes
pub mod Shapes
pub mod Trees
