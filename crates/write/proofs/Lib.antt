pub mod Sets
pub mod Puts
pub mod Wrote
pub mod Zeros
pub mod Decimals
pub mod Examples
