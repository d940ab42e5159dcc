-- Lists of ids.
pub mod Members
pub mod Distinct
-- Sets of ids.
pub mod IdSets
