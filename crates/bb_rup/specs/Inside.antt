-- What code and proofs share: no clause of the top call rests on it.
pub mod Ahead
pub mod Statuses
pub mod Steps
pub mod TableOfFaults
pub mod Trails
