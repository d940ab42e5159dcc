-- The front page: what the layers above may cite.
pub mod Laws
-- What the code reads is what the definition gives.
pub mod Digits
pub mod Files
pub mod Front
-- What holds of accepted and of refused files.
pub mod Accepted
pub mod Refused
