-- Digits, numbers, and the numbers of a line.
pub mod Digits
pub mod Numbers
pub mod Lines
pub mod Shorter
