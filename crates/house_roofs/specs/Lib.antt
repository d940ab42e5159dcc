-- A job by wind class and the same job by pressures: what is to be placed, and what the calls answer or promise.
pub mod SameRoof
pub mod SameAnswers
