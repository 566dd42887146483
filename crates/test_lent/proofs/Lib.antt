pub mod Taking
pub mod Rows
