-- What a reader believes, in document 01's order.
pub mod Wrote
pub mod Decimal
pub mod Puts
