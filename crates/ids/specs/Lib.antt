-- Lists of ids, and the place of an id in one.
pub mod Ids
pub mod Lookup
pub mod Internal
