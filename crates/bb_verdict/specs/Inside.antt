-- What code and proofs share: no clause of the top call rests on it.
pub mod BrokenTexts
pub mod Made
pub mod Unrolled
