pub mod Additions
pub mod Dimacs
pub mod Laws
pub mod Numerals
pub mod Propagation
pub mod TextWords
pub mod Inside
