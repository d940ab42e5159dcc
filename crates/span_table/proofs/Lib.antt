-- What selects a row; the test of the entries; the rule of the spans, and their steps.
pub mod Rows
pub mod Entries
pub mod SpanRule
pub mod InSteps
