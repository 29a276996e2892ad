pub use Rattle.bb_net.specs.Completions
pub mod ClauseCounts
pub mod Expanded
pub mod Expansions
pub mod GivenUp
pub mod Laws
pub mod Inside
