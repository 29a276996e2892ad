pub mod Adders
pub mod Commas
pub mod Laws
