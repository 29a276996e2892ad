pub mod Laws
pub mod Pairing
pub mod Refusals
pub mod Inside
