-- Invariants of the code: no clause of the top call rests on them.
pub mod Keys
pub mod Operations
pub mod Results
pub mod State
pub mod Terminals
