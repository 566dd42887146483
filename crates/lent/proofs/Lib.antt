pub mod Pairs
pub mod Rescored
pub mod Demand
