pub mod Bits
pub mod Top
