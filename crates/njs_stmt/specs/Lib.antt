pub mod Cut
pub mod Script
pub mod Export
