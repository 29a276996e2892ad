-- The checks of the ladder in their order, those that options request, and the bounds of options.
use Rattle.std.specs.Prelude.{ℕ, ◌≤◌, ◌&&◌, Bool, nat_le, List, [], ◌∷◌, codes}
use Rattle.std.specs.List.{filter}
use Rattle.bb_options.specs.declared.options.Options.{Options}
use Rattle.bb_options.specs.declared.rung.Rung.{Rung}
use Rattle.bb_options.specs.declared.rung.Rung.TheVariants.{Ternary, Symbolic, Local, Output, Input, Expand}

abbrev pub rank : Rung → ℕ
rank Ternary = 0
rank Symbolic = 1
rank Local = 2
rank Output = 3
rank Input = 4
rank Expand = 5

abbrev pub rung_name : Rung → List ℕ
rung_name Ternary = codes "ternary"
rung_name Symbolic = codes "symbolic"
rung_name Local = codes "local"
rung_name Output = codes "output"
rung_name Input = codes "input"
rung_name Expand = codes "expand"

abbrev pub all_rungs : List Rung
all_rungs = Ternary ∷ Symbolic ∷ Local ∷ Output ∷ Input ∷ Expand ∷ []

-- those from one to another
abbrev pub is_requested : Options → Rung → Bool
is_requested o r = nat_le (rank o.from) (rank r) && nat_le (rank r) (rank o.to)

abbrev pub requested_rungs : Options → List Rung
requested_rungs o = filter (is_requested o) all_rungs

-- the bounds are in their ranges, and the first check is not after the last
pub record AreBounds (o : Options) : Type 0 where
  pub order : rank o.from ≤ rank o.to
  pub seed : 1 ≤ o.seed
  pub patterns : o.patterns ≤ 4096
  pub nodes : o.nodes ≤ 50000000
  pub cache_least : 1 ≤ o.cache
  pub cache_most : o.cache ≤ 1048576
  pub clauses : o.clauses ≤ 8000000
