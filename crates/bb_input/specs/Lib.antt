pub mod InputFunctions
pub mod Laws
pub mod Inside
