pub mod Scans
pub mod Neighbours
pub mod Stretches
pub mod Grounds
pub mod Searches
pub mod Parts
mod Examples
pub mod Whole
