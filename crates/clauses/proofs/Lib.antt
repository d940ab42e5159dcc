-- The front page: what the layers above may cite.
pub mod Laws
-- The verdict, by the tests that led to it.
pub mod Verdicts
-- Laws of the verdict.
pub mod VerdictLaws
pub mod SightLaws
pub mod WindLaws
pub mod LoadLaws
-- The answers to questions.
pub mod Answers
