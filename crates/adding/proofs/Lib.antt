pub mod Copying
pub mod Appended
pub mod Results
pub mod Next
