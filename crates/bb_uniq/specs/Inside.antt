-- Invariants of the code: no clause of the top call rests on them.
pub mod Cofactors
pub mod Meaning
pub mod Nodes
pub mod Places
pub mod Probes
