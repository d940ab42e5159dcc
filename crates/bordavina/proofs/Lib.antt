-- The number of a result is 0 exactly where nothing is refused.
pub mod Numbers
-- A struct of a placing tells what the lists hold.
pub mod Told
