-- Invariants of the solver's code: no clause of the top call rests on them.
pub mod Analysis
pub mod Dates
pub mod Events
pub mod Measure
pub mod Outcomes
pub mod Resting
pub mod Solved
pub mod States
pub mod Trails
