pub mod Comparable
pub mod DesignEquivalence
pub mod DesignFit
pub mod Invariants
pub mod Mistakes
pub mod Runs
pub mod Laws
pub mod Inside
