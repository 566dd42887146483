pub mod Nodes
pub mod Tables
pub mod Held
pub mod Ranges
