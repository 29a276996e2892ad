-- Laws, and the words that laws alone need.
pub mod Comparable
pub mod DesignEquivalence
pub mod DesignRefusals
pub mod Invariants
pub mod IsomorphicPairs
pub mod Mistakes
pub mod Runs
