pub mod Counts
pub mod Inside
