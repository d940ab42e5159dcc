-- Documents 01 and 02, "The four clauses": clause 1 and the verdict; clauses 2, 3 and 4 are in cut_size, point_load and uniform_load.
pub mod Kind
pub mod Verdict
-- What the call `verdict` answers.
pub mod VerdictAnswer
-- What follows from the definitions.
pub mod Laws
pub mod SightLaws
pub mod WindLaws
pub mod LoadLaws
pub mod Internal
