-- What a reader believes, in document 01's order.
pub mod Rows
pub mod Table
