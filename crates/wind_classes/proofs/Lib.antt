-- What holds of the whole table, and a second copy of it.
pub mod TableLaws
pub mod ByColumns
