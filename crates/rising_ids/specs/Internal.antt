-- Ids listed in order.
pub mod Listing
