-- What a reader believes.
pub mod PaperOrder
pub mod Listed
-- What only the contracts of inner functions cite.
pub mod inner
