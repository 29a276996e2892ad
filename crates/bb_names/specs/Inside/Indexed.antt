-- What an index of a module's names says.
use Rattle.std.specs.Prelude.{◌≡◌, ℕ, List, map}
use Rattle.std.specs.List.{position_from}
use Rattle.std.specs.Map.{lookup}
use Rattle.bb_bits.specs.Names.{same_name}
use Rattle.bb_ast.specs.Syntax.{PlainModule}
use Rattle.bb_names.specs.declared.summary.Summary.{Summary}
use Rattle.bb_names.specs.Declarations.{declarations, implicit_names}
use Rattle.bb_names.specs.Inside.Summaries.{Describes}
use Rattle.bb_bits.specs.Earlier.{once}

abbrev pub head_names : PlainModule → List (List ℕ)
head_names m = map (λ head. head.name) m.heads

-- the first place of each name of a list
abbrev pub ArePlaces : List (List ℕ × ℕ) → List (List ℕ) → Type 0
ArePlaces entries names = (n : List ℕ) → lookup (same_name n) entries ≡ position_from (same_name n) 0 names

-- the first place of each name of the header, what is declared of each name, and the implicit wires in net order
pub record IsIndexed (m : PlainModule) (places : List (List ℕ × ℕ)) (said : List (List ℕ × Summary)) (wires : List (List ℕ)) : Type 0 where
  pub ports : ArePlaces places (head_names m)
  pub declared : Describes said (declarations m)
  pub implicit : wires ≡ once (implicit_names m)
