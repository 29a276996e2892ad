pub mod Finds
pub mod Functions
pub mod Laws
pub mod Plain
pub mod Inside
