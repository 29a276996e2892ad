pub use Rattle.bb_bits.specs.Numbers
pub mod Circuits
pub mod Folds
pub mod Gates
pub mod Meanings
pub mod Words
pub mod Inside
pub mod Laws
