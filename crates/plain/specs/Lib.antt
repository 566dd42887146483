-- What a reader believes.
pub mod Plain
-- What only the contracts of inner functions cite.
pub mod inner
