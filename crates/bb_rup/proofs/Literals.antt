-- Literals, and sets of them.
use Rattle.std.proofs.Common.{◌≡◌, ◌≢◌, ℕ, Bool, true, false, not, ◌&&◌, ◌||◌, ◌==◌, List, [], ◌∷◌, ◌++◌, refl, sym, ◌∙◌, ap, ap₂, ◌⊎◌, inl, inr, true≢false}
use Rattle.std.proofs.lemmas.List.Folds.{list_any-append}
use mathlib.Core.Bool.{beq}
use Rattle.bb_lemmas.proofs.Tests.{number_equal, number_self}
use Rattle.bb_lemmas.proofs.Maps.{or-false}
use Rattle.bb_lemmas.proofs.Bits.{and_both, or_cases, or_right, or_left, beq_equal, beq_self}
use Rattle.bb_cnf.specs.declared.clauses.Lit.{Lit}
use Rattle.bb_cnf.specs.Clauses.{literals_of, same_literal}
use Rattle.bb_rup.specs.Propagation.{complement}

pub clash : {A : Type 0} (b : Bool) → b ≡ true → b ≡ false → A
clash b on off = absurd (true≢false (sym on ∙ off))

pub same_literal-is : (a b : Lit) → same_literal a b ≡ true → a ≡ b
same_literal-is a b h =
    let parts = and_both (a.var == b.var) (beq a.neg b.neg) h in
    let make : ℕ → Bool → Lit = λ x s. record { var = x; neg = s } in
    ap₂ make (number_equal a.var b.var parts.0) (beq_equal a.neg b.neg parts.1)

pub same_literal-itself : (a : Lit) → same_literal a a ≡ true
same_literal-itself a = ap₂ (λ x y. x && y) (number_self a.var) (beq_self a.neg)

-- two literals that are not one
pub not_same : (a b : Lit) → same_literal a b ≡ false → a ≢ b
not_same a b off is = clash (same_literal a b) (ap (λ l. same_literal a l) (sym is) ∙ same_literal-itself a) off

pub complement_twice : (l : Lit) → complement (complement l) ≡ l
complement_twice l = same_literal-is (complement (complement l)) l (ap₂ (λ x y. x && y) (number_self l.var) (double l.neg)) where
  double : (b : Bool) → beq (not (not b)) b ≡ true
  double true = refl
  double false = refl

-- a list with one more at its front
pub in_cons : (x : Lit) (xs : List Lit) (m : Lit) → literals_of (x ∷ xs) m ≡ true → (x ≡ m) ⊎ (literals_of xs m ≡ true)
in_cons x xs m is = by (or_cases (same_literal x m) (literals_of xs m) is)
  where
    by : (same_literal x m ≡ true) ⊎ (literals_of xs m ≡ true) → (x ≡ m) ⊎ (literals_of xs m ≡ true)
    by (inl same) = inl (same_literal-is x m same)
    by (inr rest) = inr rest

pub in_here : (x : Lit) (xs : List Lit) → literals_of (x ∷ xs) x ≡ true
in_here x xs = or_left (same_literal x x) (literals_of xs x) (same_literal-itself x)

pub in_there : (x : Lit) (xs : List Lit) (m : Lit) → literals_of xs m ≡ true → literals_of (x ∷ xs) m ≡ true
in_there x xs m is = or_right (same_literal x m) (literals_of xs m) is

-- and at its end
pub literals_of-push : (xs : List Lit) (l m : Lit) → literals_of (xs ++ l ∷ []) m ≡ (literals_of xs m || same_literal l m)
literals_of-push xs l m = list_any-append (λ k. same_literal k m) xs (l ∷ []) ∙ ap (λ b. literals_of xs m || b) (or-false (same_literal l m))
