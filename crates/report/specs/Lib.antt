-- What a reader believes, in document 01's order.
pub mod Input
pub mod Report
-- What only the contracts of inner functions cite.
pub mod inner
