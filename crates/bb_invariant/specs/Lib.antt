pub mod Invariance
pub mod Inside
