-- What a reader believes.
pub mod State
pub mod Acts
pub mod Fields
pub mod View
pub mod Handed
pub mod Opening
pub mod Looking
