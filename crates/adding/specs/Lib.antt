-- What a reader believes.
pub mod Adding
-- What only the contracts of inner functions cite.
pub mod inner
