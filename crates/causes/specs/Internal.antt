-- What holds of the number of every cause.
pub mod Numbered
-- What each cause says to people.
pub mod Words
