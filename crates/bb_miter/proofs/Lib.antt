pub mod Boxless
pub mod TakenVectors
