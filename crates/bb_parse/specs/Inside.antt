-- What functions inside the crate compute, reading symbols from the left, as functions on lists.
pub mod Declarations
pub mod Expressions
pub mod Items
pub mod Sources
pub mod Steps
pub mod Symbols
