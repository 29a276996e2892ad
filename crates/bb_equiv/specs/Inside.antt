-- What laws of this crate say to each other: no clause of the top call rests on it.
pub mod LowerLaws
