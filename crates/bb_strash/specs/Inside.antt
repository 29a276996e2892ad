-- Invariants of the code and of the search in `bb_expand`: no clause of the top call rests on them.
pub mod Copies
pub mod Extensions
pub mod Miters
pub mod Parts
pub mod Windows
