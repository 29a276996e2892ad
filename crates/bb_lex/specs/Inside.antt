-- What functions inside the crate compute, reading a text from the start, as functions on lists.
pub mod Answers
pub mod Found
pub mod Marks
pub mod Numbers
pub mod Pieces
pub mod Runs
pub mod Skips
pub mod Words
