-- Laws of embeddings, of multiplexer trees, of filled netlists, and of distinguishing vectors.
pub mod IsomorphismLaws
pub mod EmbeddingLaws
pub mod FilledLaws
pub mod DistinguishingLaws
