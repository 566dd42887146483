pub mod Lengths
pub mod Members
pub mod Printed
pub mod Examples
