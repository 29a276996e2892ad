-- tables with more variables, on which nothing depends, before the others or after them
use Rattle.std.proofs.Common.{◌≡◌, ℕ, zero, suc, ◌+◌, Bool, false, true, [], ◌∷◌, take, drop, refl, sym, ap, ap₂, ◌∙◌, subst, inl, inr, arith}
use Rattle.bb_bits.specs.Truth.{Truth, Bit, Halves, lifted, constant, IsSubtableOf, IsBead, IsBeadOf}
use Rattle.bb_bits.specs.Laws.TruthLaws.{TableLaws}
use Rattle.bb_sym.specs.Plain.{Function, table}
use Rattle.bb_sym.proofs.FunctionTables.{constant-table}

-- a table with so many more variables after the others, on which nothing depends
abbrev pub deepened : ℕ → Truth → Truth
deepened m (Bit b) = constant m b
deepened m (Halves lo hi) = Halves (deepened m lo) (deepened m hi)

-- how many variables it has
abbrev depth : Truth → ℕ
depth (Bit b) = 0
depth (Halves lo hi) = suc (depth lo)

depth-constant : (m : ℕ) (b : Bool) → depth (constant m b) ≡ m
depth-constant zero b = refl
depth-constant (suc m) b = ap suc (depth-constant m b)

depth-deepened : (m : ℕ) (t : Truth) → depth (deepened m t) ≡ depth t + m
depth-deepened m (Bit b) = let e = depth-constant m b in omega (arith, e)
depth-deepened m (Halves lo hi) = let e = depth-deepened m lo in omega (arith, e)

-- no constant is as deep as a table with halves
too_deep : (m : ℕ) (b : Bool) (lo hi : Truth) → constant m b ≡ deepened m (Halves lo hi) → ⊥
too_deep m b lo hi e =
    let own = depth-constant m b in
    let other = depth-deepened m (Halves lo hi) in
    let same = ap depth e in
    omega (arith, own, other, same)

pub deepened_same : TableLaws → (m : ℕ) (t u : Truth) → deepened m t ≡ deepened m u → t ≡ u
deepened_same laws m (Bit a) (Bit b) e = laws.lifted_same m (Bit a) (Bit b) e
deepened_same laws m (Bit a) (Halves c d) e = absurd (too_deep m a c d e)
deepened_same laws m (Halves a b) (Bit c) e = absurd (too_deep m c a b (sym e))
deepened_same laws m (Halves a b) (Halves c d) e =
    let first : deepened m a ≡ deepened m c = cc in
    let second : deepened m b ≡ deepened m d = cc in
    ap₂ Halves (deepened_same laws m a c first) (deepened_same laws m b d second)

-- subtables and beads stay such
subtable_self : (t : Truth) → IsSubtableOf t t
subtable_self (Bit b) = refl
subtable_self (Halves lo hi) = inl refl

subtable_deepened : (m : ℕ) (s t : Truth) → IsSubtableOf s t → IsSubtableOf (deepened m s) (deepened m t)
subtable_deepened m s (Bit b) h = subst (λ (u : Truth). IsSubtableOf (deepened m u) (constant m b)) (sym h) (subtable_self (constant m b))
subtable_deepened m s (Halves lo hi) h =
    elim h [
      | inl e ↦ inl (ap (deepened m) e)
      | inr rest ↦ elim rest [ inl l ↦ inr (inl (subtable_deepened m s lo l)) | inr r ↦ inr (inr (subtable_deepened m s hi r)) ]
    ]

bead_deepened : TableLaws → (m : ℕ) (b : Truth) → IsBead b → IsBead (deepened m b)
bead_deepened laws m (Bit b) h = absurd h
bead_deepened laws m (Halves lo hi) h = λ e. h (deepened_same laws m lo hi e)

pub beads_deepened : TableLaws → (m : ℕ) (b t : Truth) → IsBeadOf b t → IsBeadOf (deepened m b) (deepened m t)
beads_deepened laws m b t h = (subtable_deepened m b t h.0, bead_deepened laws m b h.1)

-- the table of a function of the variables after the first ones, and of one of the variables before the last ones
pub table-after : (k n vars : ℕ) (f : Function) → vars ≡ k + n → table vars (λ p. f (drop k p)) ≡ lifted k (table n f)
table-after zero n vars f e = let same : vars ≡ n = omega (arith, e) in ap (λ i. table i f) same
table-after (suc k) n zero f e = absurd (omega (arith, e))
table-after (suc k) n (suc vars) f e = let rest = table-after k n vars f (omega (arith, e)) in ap₂ Halves rest rest

pub table-before : (n m vars : ℕ) (f : Function) → vars ≡ n + m → table vars (λ p. f (take n p)) ≡ deepened m (table n f)
table-before zero m vars f e = let same : vars ≡ m = omega (arith, e) in ap (λ i. table i (λ p. f [])) same ∙ sym (constant-table m (f []))
table-before (suc n) m zero f e = absurd (omega (arith, e))
table-before (suc n) m (suc vars) f e =
    ap₂ Halves (table-before n m vars (λ x. f (false ∷ x)) (omega (arith, e))) (table-before n m vars (λ x. f (true ∷ x)) (omega (arith, e)))
