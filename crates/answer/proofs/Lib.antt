pub mod Numbers
pub mod Denied
pub mod Given
pub mod Tells
pub mod Grounds
