-- How the reading definition and the grammar agree, from digits up to files.
pub mod Digits
pub mod Numbers
pub mod Line
pub mod Parts
pub mod Forms
pub mod Trailer
pub mod Offsets
pub mod Grammar
pub mod ReadAsBefore
