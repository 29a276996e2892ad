pub mod Answers
pub mod Laws
pub mod Nested
pub mod Rows
pub mod Inside
