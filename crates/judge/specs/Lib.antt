-- What a reader believes, in document 01's order.
pub mod Grounds
-- The same computed.
pub mod Judge
-- What only the contracts of inner functions cite.
pub mod inner
