pub mod ConstrainedIsomorphic
pub mod ConstrainedBits
pub mod ConstrainedCells
pub mod ConstrainedPairs
pub mod CopiedCells
pub mod GrownFormulas
pub mod GrownNets
pub mod OtherOutputs
