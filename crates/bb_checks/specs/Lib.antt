pub mod Inside
pub mod Laws
pub mod LeftOpen
pub mod Reports
pub mod Rungs
pub mod TableLines
