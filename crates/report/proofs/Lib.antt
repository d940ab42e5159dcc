-- Numbers and lines as they are written.
pub mod Written
-- What a text of a placing asks, and whose it is.
pub mod Printed
