-- Both ways round at once.
pub mod Ways
-- What follows for clause 2 by sight size.
pub mod SightSize
