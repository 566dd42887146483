-- What a reader believes.
pub mod Chain
pub mod OneSeed
-- The same computed.
pub mod Key
pub mod Best
-- What only the contracts of inner functions cite.
pub mod inner
