-- Invariants of the code: no clause of the top call rests on them.
pub mod Functions
pub mod Walks
