pub mod Judges
pub mod Openings
pub mod Calls
pub mod Looks
