-- What the contracts of public functions cite.
pub mod Masks
