-- What a reader believes, in document 02's order.
pub mod Character
