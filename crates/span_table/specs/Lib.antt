-- Document 01, "The four clauses", clause 3: Tables 6.2 to 6.5 of AS 1288.
pub mod Columns
pub mod Spans
-- What holds of the whole table.
pub mod SpanRule
pub mod InSteps
