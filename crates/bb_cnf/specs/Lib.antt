pub mod Chains
pub mod Clauses
pub mod Laws
pub mod Lines
pub mod Truth
pub mod Inside
