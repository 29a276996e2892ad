pub mod Declarations
pub mod Faults
pub mod Laws
pub mod Nets
pub mod Ranges
pub mod Sites
pub mod Widths
pub mod Inside
