-- What a job file is, as what is written, and how that and the reading definition agree.
pub mod Grammar
pub mod Written
-- What was accepted while ribbons were refused is accepted, and reads as the same lists.
pub mod ReadAsBefore
