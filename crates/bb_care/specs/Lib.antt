pub mod Constrained
pub mod Laws
