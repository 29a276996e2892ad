-- Clauses by their numbers.
use Rattle.std.proofs.Common.{◌≡◌, ◌<◌, ◌≤◌, ◌-◌, ℕ, true, All, subst, arith, Bool, Some, Option, option_map, List, [], length, slice_get, get_or, sym, ◌∙◌, ap}
use Rattle.std.proofs.lemmas.Option.{slice_get-get_or, slice_get-map, slice_get_within, get_or_from_slice_get}
use Rattle.smallvec.specs.SmallVec.{SmallVec}
use Rattle.bb_cnf.specs.declared.clauses.Lit.{Lit}
use Rattle.bb_cnf.specs.Clauses.{lists_of, literals_of, same_literal, HasVariablesWithin}
use Rattle.bb_cdcl.specs.Inside.Events.{IsSatisfied}
use Rattle.bb_cdcl.proofs.Literals.{same_literal-is}
use Rattle.std.proofs.lemmas.List.{length-map}
use Rattle.std.proofs.lemmas.List.Folds.{Any-from_list_any}

-- a literal of a clause within range
pub member_in_range : (clauses : List (SmallVec Lit)) (n k : ℕ) (lits : List Lit) (l : Lit) → slice_get (lists_of clauses) k ≡ Some lits
    → HasVariablesWithin (n - 1) (lists_of clauses) → literals_of lits l ≡ true → l.var < n
member_in_range clauses n k lits l occurs all member =
    let found = Any-from_list_any (λ m. same_literal m l) lits member in
    let inside = slice_get_within (lists_of clauses) k lits occurs in
    let here = subst (λ (xs : List Lit). All (λ m. (1 ≤ m.var) × (m.var ≤ n - 1)) xs) (get_or_from_slice_get (lists_of clauses) k lits [] occurs) (all k [] inside) in
    let bounds = subst (λ (m : Lit). (1 ≤ m.var) × (m.var ≤ n - 1)) (found.3 ∙ same_literal-is found.1 l found.4) (here found.0 found.1 found.2) in
    omega (arith, bounds.0, bounds.1)

-- a clause that is at a place
pub satisfied_at : (clauses : List (SmallVec Lit)) (values : List (Option Bool)) (k : ℕ) (d : SmallVec Lit) (lits : List Lit) → slice_get (lists_of clauses) k ≡ Some lits → IsSatisfied values lits
    → IsSatisfied values (get_or clauses k d).items
satisfied_at clauses values k d lits occurs satisfied =
    let within : k < length clauses = subst (λ n. k < n) (length-map clauses (λ (c : SmallVec Lit). c.items)) (slice_get_within (lists_of clauses) k lits occurs) in
    let same : lits ≡ (get_or clauses k d).items =
    let s : Some lits ≡ Some (get_or clauses k d).items =
    sym occurs ∙ slice_get-map (λ (c : SmallVec Lit). c.items) clauses k
    ∙ ap (λ (o : Option (SmallVec Lit)). option_map (λ (c : SmallVec Lit). c.items) o) (slice_get-get_or clauses k d within) in cc in
    subst (IsSatisfied values) same satisfied
