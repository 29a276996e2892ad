pub mod DrawLemmas
pub mod LaneLemmas
pub mod Passes
pub mod Compared
pub mod PackLemmas
pub mod Hits
pub mod FirstHits
pub mod PatternLengths
