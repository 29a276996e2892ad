pub mod Syntax
pub mod Folds
pub mod Names
pub mod Assignable
pub mod Gates
pub mod Levels
pub mod Inside
pub mod Laws
