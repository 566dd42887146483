pub mod GapLists
pub mod AreaSteps
pub mod Firsts
pub mod AreaParts
pub mod Walks
pub mod Nearest
pub mod RisingLists
pub mod LaidLists
pub mod PairGaps
pub mod PaperWalk
pub mod PaperOrder
pub mod Placed
mod AreaExamples
pub mod AreaStretches
