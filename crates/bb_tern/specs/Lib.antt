pub mod Patterns
pub mod Inside
