-- Invariants of the check's code: no clause of the top call rests on them.
pub mod Cones
pub mod Failures
pub mod FreeClauses
pub mod Sampling
pub mod LawsBelow
pub mod ReadTables
pub mod Searches
pub mod TableStarts
