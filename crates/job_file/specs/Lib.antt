-- Document 01, "The job file" and "What each cause gives": the whole file.
pub mod File
pub mod Entries
pub mod CheckAnswer
-- What the lists of an accepted file keep.
pub mod Rules
-- What no file is refused with.
pub mod Laws
pub mod Internal
