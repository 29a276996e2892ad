-- What the functions of this crate say to each other: no clause of the top call rests on it.
pub mod CopyEnds
pub mod DrivenNumbers
pub mod PlacedPaths
pub mod Placings
pub mod Stages
pub mod StoredNumbers
