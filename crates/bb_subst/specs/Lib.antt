pub mod Embeddings
pub mod Filled
pub mod Distinguishing
pub mod Inside
pub mod Laws
pub mod Trees
