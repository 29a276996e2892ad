-- Answers of a search for a vector at which two netlists differ.
use Rattle.bb_miter.specs.Inside.Equivalence.{AreEquivalent, DiffersAt}
use Rattle.bb_net.specs.Netlists.{Netlist}
use Rattle.bb_expand.specs.declared.search_result.SearchResult.{SearchResult}
use Rattle.bb_expand.specs.declared.search_result.SearchResult.TheVariants as answers

-- they differ at a vector that is given
abbrev pub IfAt : Netlist → Netlist → SearchResult → Type 0
IfAt spec imp (answers.At x) = DiffersAt spec imp x.items
IfAt spec imp answers.Nowhere = Unit {0}
IfAt spec imp answers.GivenUp = Unit {0}

-- they are equivalent where there is none
abbrev pub IfNowhere : Netlist → Netlist → SearchResult → Type 0
IfNowhere spec imp (answers.At x) = Unit {0}
IfNowhere spec imp answers.Nowhere = AreEquivalent spec imp
IfNowhere spec imp answers.GivenUp = Unit {0}
