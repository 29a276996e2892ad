-- Answers of a search for a vector at which a cell is 1.
use Rattle.std.specs.Prelude.{◌≡◌, ℕ, ◌<◌, Bool, true, false, List, [], ◌∷◌, length, slice_index}
use Rattle.bb_net.specs.Equivalence.{IsVector}
use Rattle.bb_net.specs.Netlists.{Netlist, IsNetlist}
use Rattle.bb_expand.specs.declared.search_result.SearchResult.{SearchResult}
use Rattle.bb_expand.specs.declared.search_result.SearchResult.TheVariants as answers
use Rattle.bb_strash.specs.Inside.Extensions.{bit}

-- the cell is 1 at the vector
abbrev pub IsOneAt : Netlist → ℕ → List Bool → Type 0
IsOneAt net place x = IsVector net x × (bit net x place ≡ true)

-- it is 0 at every vector
abbrev pub IsNeverOne : Netlist → ℕ → Type 0
IsNeverOne net place = (x : List Bool) → bit net x place ≡ false

abbrev pub IfOne : Netlist → ℕ → SearchResult → Type 0
IfOne net place (answers.At x) = IsOneAt net place x.items
IfOne net place answers.Nowhere = Unit {0}
IfOne net place answers.GivenUp = Unit {0}

abbrev pub IfZero : Netlist → ℕ → SearchResult → Type 0
IfZero net place (answers.At x) = Unit {0}
IfZero net place answers.Nowhere = IsNeverOne net place
IfZero net place answers.GivenUp = Unit {0}

-- some output of a netlist is 1 at the vector
abbrev pub HasOneAt : Netlist → List Bool → Type 0
HasOneAt net x = (j : ℕ) × (j < length net.outs) × IsOneAt net (slice_index net.outs j) x

-- every output is 0 at every vector
abbrev pub HasNoOne : Netlist → Type 0
HasNoOne net = (j : ℕ) → j < length net.outs → IsNeverOne net (slice_index net.outs j)

abbrev pub IfSomeOne : Netlist → SearchResult → Type 0
IfSomeOne net (answers.At x) = HasOneAt net x.items
IfSomeOne net answers.Nowhere = Unit {0}
IfSomeOne net answers.GivenUp = Unit {0}

abbrev pub IfNone : Netlist → SearchResult → Type 0
IfNone net (answers.At x) = Unit {0}
IfNone net answers.Nowhere = HasNoOne net
IfNone net answers.GivenUp = Unit {0}

-- the netlist of the constants and `count` inputs, with one output, which is 0
pub record IsZero (count : ℕ) (net : Netlist) : Type 0 where
  pub kept : IsNetlist net
  pub inputs : net.inputs ≡ count
  pub boxes : net.boxes ≡ []
  pub outs : net.outs ≡ 0 ∷ []
