pub mod Lists
pub mod Values
pub mod Terms
pub mod Cells
pub mod Lowered
pub mod Laws
pub mod Inside
