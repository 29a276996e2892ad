-- What the calls of this crate say of themselves.
pub mod Filling
