-- What a reader believes, in document 01's order.
pub mod Stretch
pub mod Grounds
-- What only the contracts of inner functions cite.
pub mod inner
