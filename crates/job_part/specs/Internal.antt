-- What reading a part promises.
pub mod Entries
