-- What only the contracts of inner functions cite.
pub mod DotBracket
pub mod Building
pub mod NodeKinds
