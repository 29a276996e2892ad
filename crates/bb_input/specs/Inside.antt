-- Invariants of the code: no clause of the top call rests on it.
pub mod Answers
pub mod Order
pub mod Prefixes
pub mod Rows
