-- What a reader believes.
pub mod Best
-- What only the contracts of inner functions cite.
pub mod inner
