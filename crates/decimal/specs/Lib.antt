-- What a reader believes, in document 02's order.
pub mod Score
pub mod Parts
pub mod Grounds
-- What only the contracts of inner functions cite.
pub mod inner
