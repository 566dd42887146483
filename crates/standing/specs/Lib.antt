-- What the contracts of public functions cite.
pub mod Standing
-- What only the contracts of inner functions cite.
pub mod inner
