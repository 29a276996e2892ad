pub mod Joined
pub mod Halves
pub mod Lengths
