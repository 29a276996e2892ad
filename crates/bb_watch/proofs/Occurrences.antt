-- A clause is at its place.
use Rattle.std.proofs.Common.{◌≡◌, ◌<◌, ℕ, Some, Option, option_map, List, length, slice_get, get_or, sym, ◌∙◌, ap}
use Rattle.std.proofs.lemmas.Option.{slice_get-get_or, slice_get-map}
use Rattle.smallvec.specs.SmallVec.{SmallVec}
use Rattle.bb_cnf.specs.declared.clauses.Lit.{Lit}
use Rattle.bb_cnf.specs.Clauses.{lists_of}

pub clause_occurs : (clauses : List (SmallVec Lit)) (k : ℕ) (clause : SmallVec Lit) (lits : List Lit) → k < length clauses → clause ≡ get_or clauses k clause → lits ≡ clause.items
    → slice_get (lists_of clauses) k ≡ Some lits
clause_occurs clauses k clause lits within is items =
    slice_get-map (λ (c : SmallVec Lit). c.items) clauses k
    ∙ ap (λ (o : Option (SmallVec Lit)). option_map (λ (c : SmallVec Lit). c.items) o) (slice_get-get_or clauses k clause within ∙ ap Some (sym is))
    ∙ ap Some (sym items)
