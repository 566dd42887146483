-- What a reader believes, in document 01's order.
pub mod Run
pub mod Node
pub mod Nested
pub mod NodeKind
pub mod Fields
pub mod Reading
pub mod Whole
pub mod Grounds
-- What only the contracts of inner functions cite.
pub mod inner
