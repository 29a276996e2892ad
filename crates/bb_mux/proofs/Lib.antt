pub mod Given
pub mod GateBits
pub mod Children
pub mod Counting
pub mod Walking
pub mod Roots
