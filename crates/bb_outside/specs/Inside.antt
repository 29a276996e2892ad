-- What code and proofs share: no clause of the top call rests on it.
pub mod KeptFiles
pub mod MemFiles
pub mod MemSink
pub mod QuietFiles
pub mod Streams
