-- No matching serves more than the sheets of some glasses and the panes that need none of them.
pub mod Cover
-- The search: one law for each way through it.
pub mod Ways
pub mod Blocks
pub mod Growth
pub mod Choices
pub mod Links
pub mod Serving
pub mod Freeing
-- The placing of pane after pane.
pub mod Standing
pub mod Early
pub mod Turns
