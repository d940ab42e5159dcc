-- Documents 01 and 02, "The four clauses": clause 2, the size.
pub mod EdgeCover
pub mod Size
-- Clause 2 by sight size, and what follows for it.
pub mod SightSize
