pub mod Given
pub mod FirstBits
pub mod Quantifying
pub mod Walks
