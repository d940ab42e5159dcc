-- What a matching is, and which one is the greatest.
pub mod Matching
-- Rows and sheets as lists.
pub mod Rows
-- What is known of the panes that hold a glass.
pub mod Holders
-- What each call of the search asks and leaves.
pub mod Steps
