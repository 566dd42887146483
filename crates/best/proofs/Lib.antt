pub mod Signs
pub mod Members
pub mod Banks
pub mod Rows
pub mod BestChain
pub mod Listing
pub mod Answers
mod Examples
