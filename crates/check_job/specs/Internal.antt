-- Where an offset lies.
pub mod Place
-- What is wrong with a wind class.
pub mod WindFault
