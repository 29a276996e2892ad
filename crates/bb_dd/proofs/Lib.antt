pub mod Entries
pub mod Faults
pub mod Given
pub mod Halving
pub mod Recalled
pub mod Variables
