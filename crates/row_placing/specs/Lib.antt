-- What is to be placed; what may be given to panes; why panes can't all be placed; what the placing is to give.
pub mod Schedule
pub mod Placing
pub mod ShortGroup
pub mod Glazing
-- What a call that places leaves in the lent lists.
pub mod Glazed
-- What follows from the definitions, and how many sheets are missing.
pub mod Laws
pub mod MissingSheets
pub mod Internal
