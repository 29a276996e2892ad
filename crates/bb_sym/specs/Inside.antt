-- Invariants of the code: no clause of the top call rests on them.
pub mod Dependence
pub mod Made
pub mod Rails
