pub mod Results
pub mod BothRead
pub mod Passing
pub mod Dealing
