pub mod Parts
pub mod Reports
pub mod EmptyTexts
pub mod Examples
