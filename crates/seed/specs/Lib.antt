-- What a reader believes, in document 01's order.
pub mod Paths
pub mod Seed
pub mod Chain
pub mod Area
pub mod Pairs
pub mod Tab
-- The same computed.
pub mod Tests
pub mod AreaList
