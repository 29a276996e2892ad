-- Literals, and sets of them.
use Rattle.std.proofs.Common.{◌≡◌, ℕ, Bool, true, false, not, ◌&&◌, ◌||◌, ◌==◌, List, [], ◌∷◌, ◌++◌, refl, sym, ◌∙◌, ap, ap₂, arith, ◌⊎◌, inl, inr}
use Rattle.std.proofs.lemmas.List.Folds.{list_any-append}
use mathlib.Core.Bool.{beq}
use Rattle.bb_lemmas.proofs.Tests.{number_equal, number_self}
use Rattle.bb_lemmas.proofs.Maps.{or-false}
use Rattle.bb_lemmas.proofs.Bits.{and_both, beq_equal, beq_self}
use Rattle.bb_cnf.specs.declared.clauses.Lit.{Lit}
use Rattle.bb_cnf.specs.Clauses.{literals_of, same_literal}
use Rattle.bb_cdcl.specs.declared.trail.Entry.{Entry}
use Rattle.bb_cdcl.specs.Inside.Trails.{opposite, falsified}

pub no_clash : {A : Type 0} → false ≡ true → A
no_clash e = absurd (let clash : false ≡ true = e in cc)

pub one_sign : (a b : Bool) → (beq a b ≡ true) ⊎ (beq (not a) b ≡ true)
one_sign true true = inl refl
one_sign true false = inr refl
one_sign false true = inr refl
one_sign false false = inl refl

pub same_literal-is : (a b : Lit) → same_literal a b ≡ true → a ≡ b
same_literal-is a b h =
    let parts = and_both (a.var == b.var) (beq a.neg b.neg) h in
    let make : ℕ → Bool → Lit = λ x s. record { var = x; neg = s } in
    ap₂ make (number_equal a.var b.var parts.0) (beq_equal a.neg b.neg parts.1)

pub same_literal-itself : (a : Lit) → same_literal a a ≡ true
same_literal-itself a = ap₂ (λ x y. x && y) (number_self a.var) (beq_self a.neg)

pub opposite_twice : (l : Lit) → opposite (opposite l) ≡ l
opposite_twice l = same_literal-is (opposite (opposite l)) l (ap₂ (λ x y. x && y) (number_self l.var) (double l.neg)) where
  double : (b : Bool) → beq (not (not b)) b ≡ true
  double true = refl
  double false = refl

-- a literal of the same variable is the same or the opposite one
pub of_variable : (l m : Lit) → m.var ≡ l.var → (l ≡ m) ⊎ (opposite l ≡ m)
of_variable l m e =
    let make : ℕ → Bool → Lit = λ x s. record { var = x; neg = s } in
    elim (one_sign l.neg m.neg) as (λ _. (l ≡ m) ⊎ (opposite l ≡ m)) [
      | inl s ↦ inl (ap₂ make (sym e) (beq_equal l.neg m.neg s))
      | inr s ↦ inr (ap₂ make (sym e) (beq_equal (not l.neg) m.neg s))
    ]

pub other_variable : (l m : Lit) → (m.var == l.var) ≡ false → same_literal l m ≡ false
other_variable l m other =
    let iterated : (l.var == m.var) ≡ false = grind (arith, other) in
    ap (λ b. b && beq l.neg m.neg) iterated

pub falsified-push : (es : List Entry) (e : Entry) (m : Lit) → falsified (es ++ e ∷ []) m ≡ (falsified es m || same_literal (opposite e.lit) m)
falsified-push es e m =
    list_any-append (λ d. same_literal (opposite d.lit) m) es (e ∷ []) ∙ ap (λ b. falsified es m || b) (or-false (same_literal (opposite e.lit) m))

pub literals_of-push : (xs : List Lit) (l m : Lit) → literals_of (xs ++ l ∷ []) m ≡ (literals_of xs m || same_literal l m)
literals_of-push xs l m = list_any-append (λ k. same_literal k m) xs (l ∷ []) ∙ ap (λ b. literals_of xs m || b) (or-false (same_literal l m))
