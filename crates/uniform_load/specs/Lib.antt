-- Documents 01 and 02, "The four clauses": clause 4, the uniform load (AS 1288, 6.5.5). Its tables are in dead_loads and wind_classes.
pub mod GlassLoads
pub mod Wind
pub mod UniformLoad
-- What follows for panes with four edges and for panes by wind class, and the loads before and after the rule for tempered glass.
pub mod FourEdges
pub mod AsPressures
pub mod LoadsBefore
-- How large the numbers of clause 4 are.
pub mod LoadBounds
pub mod Internal
