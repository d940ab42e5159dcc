-- Lists of ids that rise, and what follows from the definition.
pub mod Rises
pub mod Laws
pub mod Internal
