-- Lists by a test: how they grow, and which ids stand in them.
pub mod Listing
pub mod OneOf
-- Lists that rise, those of the ids of a list, and their sets.
pub mod Order
pub mod Rising
pub mod RisingSets
-- What the code writes: the ids of one word of a set, and entries one after the other.
pub mod Words
pub mod Listed
