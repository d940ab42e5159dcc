-- Documents 01 and 02, "The four clauses": clause 3, the point load (AS 1288, 6.5.4). Its tables are in span_table.
pub mod LiveLoad
pub mod Support
pub mod PointLoad
-- What follows for ribbons.
pub mod RibbonLaws
pub mod Internal
