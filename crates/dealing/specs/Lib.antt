-- What a reader believes.
pub mod Texts
pub mod Deal
-- The same computed.
pub mod Seeds
