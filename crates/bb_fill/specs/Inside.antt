-- What code and proofs share: no clause of the public call rests on it.
pub mod Indexes
pub mod Levels
pub mod Ports
pub mod TextBuffers
