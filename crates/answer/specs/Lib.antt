-- What a reader believes: the grounds and answers, results, and how grounds are said.
pub mod Answer
pub mod Refusal
pub mod Grounds
pub mod Tells
