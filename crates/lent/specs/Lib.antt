-- What a reader believes.
pub mod Rescored
-- What only the contracts of inner functions cite.
pub mod inner
