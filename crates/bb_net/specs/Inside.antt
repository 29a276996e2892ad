-- What the functions of this crate say to each other: no clause of the top call rests on it.
pub mod NetFaults
pub mod Placings
pub mod Walks
