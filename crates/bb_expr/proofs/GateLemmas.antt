-- What operators between bits, a chain of or, a choice, and copies make.
use Rattle.std.proofs.Common.{◌≡◌, ℕ, zero, suc, ◌<◌, true, List, [], ◌∷◌, ◌++◌, length, map, refl, sym, ap, ap₂, ◌∙◌, arith, length-append}
use Rattle.std.specs.List.{AllByRecursion}
use Rattle.std.proofs.lemmas.List.{length-map, map-append}
use Rattle.std.proofs.lemmas.List.Elements.{recursion_from_All}
use Rattle.bb_names.specs.declared.net.NetInfo.{NetInfo}
use Rattle.bb_expr.specs.declared.step.BitStep.{BitStep}
use Rattle.bb_expr.specs.Lists.{bitwise}
use Rattle.bb_expr.specs.Terms.{Term, Mux}
use Rattle.bb_expr.specs.Cells.{MadeTerms, selected}
use Rattle.bb_expr.specs.Lowered.{step_term, term_at, ReadsEarlier, is_operator}
use Rattle.bb_expr.specs.Inside.Growing.{Adds, AddsRow, paired}
use Rattle.bb_expr.proofs.ValueLemmas.{length-bitwise}
use Rattle.bb_expr.proofs.RowLemmas.{adds-beside}
use Rattle.bb_expr.proofs.ListLemmas.{all-prefix, all-back}
use Rattle.bb_expr.proofs.AddLemmas.{adds-operators}

-- the two halves of a joined list
pub both-halves : {X : Type 0} (us vs xs ys : List X) → length us ≡ length xs → us ++ vs ≡ xs ++ ys → (us ≡ xs) × (vs ≡ ys)
both-halves [] vs [] ys long same = (refl, same)
both-halves [] vs (x ∷ xs) ys long same = absurd (omega (arith, long))
both-halves (u ∷ us) vs [] ys long same = absurd (omega (arith, long))
both-halves (u ∷ us) vs (x ∷ xs) ys long same =
    let first : u ≡ x = cc in
    let others : us ++ vs ≡ xs ++ ys = cc in
    let rest = both-halves us vs xs ys (omega (arith, long)) others in
    (ap₂ (λ a r. a ∷ r) first rest.0, rest.1)

pub length-paired : (op : ℕ → ℕ → BitStep) (w : ℕ) (xs ys : List ℕ) → length xs ≡ w → length ys ≡ w → length (paired op xs ys) ≡ w
length-paired op w [] ys a b = a
length-paired op w (x ∷ xs) [] a b = grind (arith, a, b)
length-paired op zero (x ∷ xs) (y ∷ ys) a b = grind (arith, a, b)
length-paired op (suc w) (x ∷ xs) (y ∷ ys) a b = grind (arith, length-paired op w xs ys (grind (arith, a)) (grind (arith, b)))

pub selected-bitwise : (c : Term) (ts es : List Term) → bitwise (Mux c) ts es ≡ selected c ts es
selected-bitwise c [] es = refl
selected-bitwise c (t ∷ ts) [] = refl
selected-bitwise c (t ∷ ts) (e ∷ es) = ap (λ r. Mux c t e ∷ r) (selected-bitwise c ts es)

module _ (nets : List NetInfo) (op : ℕ → ℕ → BitStep) where
  pub pairs-read : (n : ℕ) → ((x y : ℕ) → x < n → y < n → ReadsEarlier nets n (op x y)) → (xs ys : List ℕ) → AllByRecursion (λ k. k < n) xs → AllByRecursion (λ k. k < n) ys → AllByRecursion (ReadsEarlier nets n) (paired op xs ys)
  pairs-read n reads [] ys a b = tt
  pairs-read n reads (x ∷ xs) [] a b = tt
  pairs-read n reads (x ∷ xs) (y ∷ ys) a b = (reads x y a.0 b.0, pairs-read n reads xs ys a.1 b.1)

  pub pairs-are : ((x y : ℕ) → is_operator (op x y) ≡ true) → (xs ys : List ℕ) → AllByRecursion (λ s. is_operator s ≡ true) (paired op xs ys)
  pairs-are are [] ys = tt
  pairs-are are (x ∷ xs) [] = tt
  pairs-are are (x ∷ xs) (y ∷ ys) = (are x y, pairs-are are xs ys)

  pub pairs-terms : (v : ℕ → Term) (gate : Term → Term → Term) → ((x y : ℕ) → step_term nets (op x y) v ≡ gate (v x) (v y)) → (xs ys : List ℕ)
      → map (λ s. step_term nets s v) (paired op xs ys) ≡ bitwise gate (map v xs) (map v ys)
  pairs-terms v gate means [] ys = refl
  pairs-terms v gate means (x ∷ xs) [] = refl
  pairs-terms v gate means (x ∷ xs) (y ∷ ys) = ap₂ (λ a r. a ∷ r) (means x y) (pairs-terms v gate means xs ys)

-- an operator of two bits, as a step and as a cell
pub record IsGate (nets : List NetInfo) (op : ℕ → ℕ → BitStep) (gate : Term → Term → Term) : Type 0 where
  pub reads : (n x y : ℕ) → x < n → y < n → ReadsEarlier nets n (op x y)
  pub is : (x y : ℕ) → is_operator (op x y) ≡ true
  pub means : (v : ℕ → Term) (x y : ℕ) → step_term nets (op x y) v ≡ gate (v x) (v y)

module _ (nets : List NetInfo) where
  -- an operator between the bits of two expressions
  pub adds-gates : (op : ℕ → ℕ → BitStep) (gate : Term → Term → Term) → IsGate nets op gate → (m n : MadeTerms) (old s1 s2 new : List BitStep) (a b out : List ℕ) → Adds nets m old s1 a → Adds nets n s1 s2 b → length a ≡ length b
      → AddsRow (paired op a b) s2 new out → Adds nets (record { bits = bitwise gate m.bits n.bits; cells = (m.cells ++ n.cells) ++ bitwise gate m.bits n.bits }) old new out
  adds-gates op gate g m n old s1 s2 new a b out x y long row =
      let both = adds-beside nets m n old s1 s2 a b x y in
      let below = recursion_from_All (λ k. k < length s2) (a ++ b) both.within in
      let count : length (paired op a b) ≡ length a = length-paired op (length a) a b refl (sym long) in
      adds-operators nets (record { bits = m.bits ++ n.bits; cells = m.cells ++ n.cells }) old s2 new (paired op a b) (a ++ b) out (bitwise gate m.bits n.bits) both row
      (pairs-read nets op (length s2) (g.reads (length s2)) a b (all-prefix (λ k. k < length s2) a b below) (all-back (λ k. k < length s2) a b below)) (pairs-are nets op g.is a b)
      (count ∙ sym (length-bitwise gate (length a) m.bits n.bits (sym x.long) (sym y.long ∙ sym long))) (omega (arith, count, long, length-append a b))
      (λ same.
      let halves = both-halves (map (term_at nets s2) a) (map (term_at nets s2) b) m.bits n.bits (length-map a (term_at nets s2) ∙ x.long) (sym (map-append (term_at nets s2) a b) ∙ same) in
      pairs-terms nets op (term_at nets s2) gate (g.means (term_at nets s2)) a b ∙ ap₂ (bitwise gate) halves.0 halves.1)
