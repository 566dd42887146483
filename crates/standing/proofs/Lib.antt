pub mod Filling
pub mod Knowing
pub mod Lasts
pub mod Ranks
pub mod Relating
pub mod Arrays
