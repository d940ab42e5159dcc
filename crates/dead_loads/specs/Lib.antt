-- Document 01, "The four clauses", clause 4: Table 6.1 of AS 1288.
pub mod DeadLoads
pub mod Internal
