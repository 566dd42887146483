pub mod GapFits
pub mod GapSteps
pub mod GapParts
