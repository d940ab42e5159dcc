-- Document 01, "The job file" and "What each cause gives": what the glass part and the pane part have in common.
pub mod Part
-- What the entries of a part that is read whole keep.
pub mod Rules
pub mod Internal
