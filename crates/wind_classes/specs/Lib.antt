-- Table A2 of AS 1288, and the pressures that a wind class has by it.
pub mod RoofPressures
pub mod ClassPressures
-- What holds of the whole table, and a second copy of it.
pub mod TableLaws
pub mod ByColumns
