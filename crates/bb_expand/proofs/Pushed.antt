-- The expansion over one vector more is that over the others with the clauses of that vector after.
use Rattle.std.proofs.Common.{◌≡◌, ℕ, ◌+◌, ◌*◌, ◌≤◌, Bool, List, [], ◌∷◌, ◌++◌, length, get_or, All, refl, sym, ap, ap₂, subst, ◌∙◌, arith}
use Rattle.std.specs.List.{flat_map, range_with_len}
use Rattle.std.proofs.lemmas.List.{length-append, get_or_append_left, get_or-append-add}
use Rattle.std.proofs.lemmas.Nat.{mul-le}
use Rattle.bb_cdcl.specs.Inside.Outcomes.{formula}
use Rattle.bb_cnf.specs.declared.clauses.Lit.{Lit}
use Rattle.bb_cnf.specs.Clauses.{Formula, HasVariablesWithin}
use Rattle.bb_net.specs.Completions.{table_bits}
use Rattle.bb_net.specs.Kinds.{FitKinds, representatives}
use Rattle.bb_net.specs.Netlists.{Netlist, IsNetlist}
use Rattle.bb_expand.specs.ClauseCounts.{clauses_per_vector}
use Rattle.bb_expand.specs.Expansions.{vector_clauses, expansion}
use Rattle.bb_expand.specs.Laws.{ClausesAreCounted, VariablesAreWithin}
use Rattle.bb_expand.proofs.Grows.{pieces_more}
use Rattle.bb_expand.proofs.Pieces.{all_right, same_pieces}
use Rattle.bb_expand.proofs.Sizes.{cells_count}

pub last_of : {A : Type 0} (xs : List A) (x d : A) → get_or (xs ++ x ∷ []) (length xs) d ≡ x
last_of xs x d =
    let e : length xs + 0 ≡ length xs = omega arith in
    ap (λ n. get_or (xs ++ x ∷ []) n d) (sym e) ∙ get_or-append-add xs (x ∷ []) 0 d

pub one_longer : {A : Type 0} (xs : List A) (x : A) → length (xs ++ x ∷ []) ≡ length xs + 1
one_longer xs x = length-append xs (x ∷ [])

module _ (spec imp : Netlist) (kinds : List ℕ) (vectors : List (List Bool)) (x : List Bool) where
  abbrev at : ℕ → List (List Lit)
  at v = vector_clauses spec imp kinds v (get_or (vectors ++ x ∷ []) v [])

  pub clauses_push : (expansion spec imp kinds (vectors ++ x ∷ [])).clauses ≡ (expansion spec imp kinds vectors).clauses ++ vector_clauses spec imp kinds (length vectors) x
  clauses_push =
      ap (λ n. flat_map at (range_with_len 0 n)) (one_longer vectors x)
      ∙ pieces_more at (length vectors)
      ∙ ap₂ (λ prefix back. prefix ++ back)
      (same_pieces at (λ v. vector_clauses spec imp kinds v (get_or vectors v [])) (length vectors) (λ v h. ap (vector_clauses spec imp kinds v) (get_or_append_left vectors (x ∷ []) [] v h)))
      (ap (vector_clauses spec imp kinds (length vectors)) (last_of vectors x []))

  pub vars_push : (expansion spec imp kinds (vectors ++ x ∷ [])).vars ≡ (expansion spec imp kinds vectors).vars + length imp.cells
  vars_push =
      let more : length (vectors ++ x ∷ []) * length imp.cells ≡ (length vectors + 1) * length imp.cells = ap (λ n. n * length imp.cells) (one_longer vectors x) in
      omega (arith, more)

  pub expansion_push : (vars : ℕ) (clauses : List (List Lit)) → vars ≡ (expansion spec imp kinds vectors).vars + length imp.cells
      → clauses ≡ (expansion spec imp kinds vectors).clauses ++ vector_clauses spec imp kinds (length vectors) x → formula vars clauses ≡ expansion spec imp kinds (vectors ++ x ∷ [])
  expansion_push vars clauses some are = ap₂ formula (some ∙ sym vars_push) (are ∙ sym clauses_push)

  -- the variables of the new clauses are in the range of all
  pub pushed_within : VariablesAreWithin → IsNetlist imp → FitKinds kinds imp.boxes → (vars : ℕ) → vars ≡ (expansion spec imp kinds vectors).vars + length imp.cells → HasVariablesWithin vars (vector_clauses spec imp kinds (length vectors) x)
  pushed_within within kept fits vars some =
      let old = (expansion spec imp kinds vectors).clauses in
      let new = vector_clauses spec imp kinds (length vectors) x in
      all_right (All (λ (l : Lit). (1 ≤ l.var) × (l.var ≤ vars))) old new
      (subst (λ (f : Formula). HasVariablesWithin f.vars f.clauses) (sym (expansion_push vars (old ++ new) some refl)) (within spec imp kinds kept fits (vectors ++ x ∷ [])))

-- where the clauses of one vector more are few, so are the variables
pub room_for_cells : ClausesAreCounted → (spec imp : Netlist) (kinds : List ℕ) (vectors : List (List Bool)) (cnf : Formula) (most : ℕ) → cnf ≡ expansion spec imp kinds vectors
    → length cnf.clauses + clauses_per_vector imp ≤ most → cnf.vars + length imp.cells ≤ table_bits (representatives kinds imp.boxes) + most
room_for_cells counted spec imp kinds vectors cnf most is few =
    let cells = cells_count imp.boxes imp.cells in
    let bound : (length vectors + 1) * length imp.cells ≤ (length vectors + 1) * clauses_per_vector imp = mul-le (length vectors + 1) (length imp.cells) (length vectors + 1) (clauses_per_vector imp) (omega arith) (omega (arith, cells)) in
    omega (arith, bound, few, counted spec imp kinds vectors, ap (λ (f : Formula). f.vars) is, ap (λ (f : Formula). length f.clauses) is)
