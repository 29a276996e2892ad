-- Clauses that an assignment makes false, over the first variables alone. Where not all clauses are true, one
-- of them is such a clause, and a clause that is false for one bit of the last variable is false without it.
use Rattle.std.proofs.Common.{◌≡◌, ◌≤◌, ℕ, suc, Bool, true, false, not, ◌&&◌, ◌||◌, ◌==◌, ◌⊎◌, if◌then◌else◌, Some, option_map, List, [], ◌∷◌, map, slice_get, refl, sym, ◌∙◌, ap, ap₂, subst, arith, inl, inr}
use Rattle.std.specs.List.{list_any}
use Rattle.std.proofs.lemmas.Bool.{eqb-false}
use Rattle.std.proofs.lemmas.List.Elements.{All-head, All-tail, All-nil, All-cons}
use Rattle.std.proofs.lemmas.List.Folds.{Any-from_list_any}
use Rattle.std.proofs.lemmas.Option.{slice_get-map}
use Rattle.bb_cnf.specs.declared.clauses.Lit.{Lit}
use Rattle.bb_cnf.specs.Clauses.{Literals, literals_of, same_literal, HasVariablesWithin}
use Rattle.bb_cnf.specs.Truth.{literal_bit, IsTrueClause, Satisfies, HaveNoModel}
use Rattle.bb_cnf.proofs.Literals.{same_literal-is}
use Rattle.bb_cnf.proofs.Within.{AreWithin}
use mathlib.Core.Bool.{beq}
use Rattle.bb_lemmas.proofs.Tests.{number_equal, number_self}
use Rattle.bb_lemmas.proofs.Bits.{neither}

-- each literal has a variable from 1 to n, and is false
abbrev pub IsFalseWithin : ℕ → (ℕ → Bool) → Literals → Type 0
IsFalseWithin n v c = (l : Lit) → c l ≡ true → (1 ≤ l.var) × (l.var ≤ n) × (literal_bit v l ≡ false)

-- the assignment with another bit for one variable
abbrev pub with_bit : (ℕ → Bool) → ℕ → Bool → ℕ → Bool
with_bit v x b y = if y == x then b else v y

-- the literal of the variable x that is false where its bit is b
abbrev pub false_literal : ℕ → Bool → Lit
false_literal x b = record { var = x; neg = b }

-- a list of literals, none of which is true
false_list : (v : ℕ → Bool) (n : ℕ) (lits : List Lit) → list_any (literal_bit v) lits ≡ false → AreWithin n lits → IsFalseWithin n v (literals_of lits)
false_list v n [] none within l member = absurd (let clash : false ≡ true = member in cc)
false_list v n (m ∷ lits) none within l member =
    let parts = neither (literal_bit v m) (list_any (literal_bit v) lits) none in
    elim (same_literal m l) as (λ b. same_literal m l ≡ b → (b || literals_of lits l) ≡ true → (1 ≤ l.var) × (l.var ≤ n) × (literal_bit v l ≡ false)) [
      | true ↦ λ same _.
          let is : m ≡ l = same_literal-is m l same in
          let inside = All-head (λ k. (1 ≤ k.var) × (k.var ≤ n)) m lits within in
          subst (λ k. (1 ≤ k.var) × (k.var ≤ n) × (literal_bit v k ≡ false)) is (inside.0, inside.1, parts.0)
      | false ↦ λ _ rest. false_list v n lits parts.1 (All-tail (λ k. (1 ≤ k.var) × (k.var ≤ n)) m lits within) l rest
    ] refl member

-- a clause of the list that is false
record FalseOne (n : ℕ) (v : ℕ → Bool) (clauses : List (List Lit)) : Type 0 where
  pub place : ℕ
  pub lits : List Lit
  pub there : slice_get clauses place ≡ Some lits
  pub is_false : IsFalseWithin n v (literals_of lits)

after : (n : ℕ) (v : ℕ → Bool) (c : List Lit) (clauses : List (List Lit)) → FalseOne n v clauses → FalseOne n v (c ∷ clauses)
after n v c clauses one = record { place = suc one.place; lits = one.lits; there = one.there; is_false = one.is_false }

-- all clauses are true, or one is false
all_or_one : (n : ℕ) (v : ℕ → Bool) (clauses : List (List Lit)) → HasVariablesWithin n clauses → Satisfies v clauses ⊎ FalseOne n v clauses
all_or_one n v [] within = inl (All-nil (IsTrueClause v))
all_or_one n v (c ∷ clauses) within =
    elim (list_any (literal_bit v) c) as (λ b. list_any (literal_bit v) c ≡ b → Satisfies v (c ∷ clauses) ⊎ FalseOne n v (c ∷ clauses)) [
      | true ↦ λ some. elim (all_or_one n v clauses (All-tail (AreWithin n) c clauses within)) [
        | inl all ↦ inl (All-cons (IsTrueClause v) c clauses (Any-from_list_any (literal_bit v) c some) all)
        | inr one ↦ inr (after n v c clauses one)
      ]
      | false ↦ λ none. inr (record { place = 0; lits = c; there = refl; is_false = false_list v n c none (All-head (AreWithin n) c clauses within) })
    ] refl

-- without a model some clause is false
pub false_one : (n : ℕ) (v : ℕ → Bool) (clauses : List (List Lit)) → HasVariablesWithin n clauses → HaveNoModel clauses
    → (place : ℕ) × (c : Literals) × (slice_get (map literals_of clauses) place ≡ Some c) × IsFalseWithin n v c
false_one n v clauses within none = elim (all_or_one n v clauses within) [
  | inl all ↦ absurd (none v all)
  | inr one ↦ (one.place, literals_of one.lits, slice_get-map literals_of clauses one.place ∙ ap (option_map literals_of) one.there, one.is_false)
]

-- the bit of a literal of the variable itself
own_bit : (v : ℕ → Bool) (x : ℕ) (b : Bool) (l : Lit) → (l.var == x) ≡ true → literal_bit (with_bit v x b) l ≡ (if l.neg then not b else b)
own_bit v x b l same = ap (λ t. if l.neg then not (if t then b else v l.var) else (if t then b else v l.var)) same

other_bit : (v : ℕ → Bool) (x : ℕ) (b : Bool) (l : Lit) → (l.var == x) ≡ false → literal_bit (with_bit v x b) l ≡ literal_bit v l
other_bit v x b l other = ap (λ t. if l.neg then not (if t then b else v l.var) else (if t then b else v l.var)) other

-- where it is false, it is the false literal
sign_is : (neg b : Bool) → (if neg then not b else b) ≡ false → beq b neg ≡ true
sign_is true true h = refl
sign_is true false h = sym h
sign_is false true h = sym h
sign_is false false h = refl

-- a literal of a clause that is false for the bit b of the last variable, if it is another one than that variable's
pub lower : (n : ℕ) (v : ℕ → Bool) (b : Bool) (c : Literals) → IsFalseWithin (suc n) (with_bit v (suc n) b) c
    → (l : Lit) → c l ≡ true → same_literal (false_literal (suc n) b) l ≡ false → (1 ≤ l.var) × (l.var ≤ n) × (literal_bit v l ≡ false)
lower n v b c all_false l member other =
    let known = all_false l member in
    elim (l.var == suc n) as (λ t. (l.var == suc n) ≡ t → (1 ≤ l.var) × (l.var ≤ n) × (literal_bit v l ≡ false)) [
      | true ↦ λ same.
          let sign = sign_is l.neg b (sym (own_bit v (suc n) b l same) ∙ known.2) in
          let itself : (suc n == l.var) ≡ true = ap (λ k. suc n == k) (number_equal l.var (suc n) same) ∙ number_self (suc n) in
          let found : same_literal (false_literal (suc n) b) l ≡ true = ap₂ (λ x y. x && y) itself sign in
          absurd (let clash : false ≡ true = sym other ∙ found in cc)
      | false ↦ λ apart.
          let below : l.var ≤ n = omega (arith, eqb-false l.var (suc n) apart, known.1) in
          (known.0, below, sym (other_bit v (suc n) b l apart) ∙ known.2)
    ] refl

-- a clause without the last variable's false literal is false without that variable
pub lower_all : (n : ℕ) (v : ℕ → Bool) (b : Bool) (c : Literals) → IsFalseWithin (suc n) (with_bit v (suc n) b) c
    → c (false_literal (suc n) b) ≡ false → IsFalseWithin n v c
lower_all n v b c all_false lacks l member =
    lower n v b c all_false l member
    (elim (same_literal (false_literal (suc n) b) l) as (λ t. same_literal (false_literal (suc n) b) l ≡ t → t ≡ false) [
      | false ↦ λ _. refl
      | true ↦ λ same. absurd (let clash : false ≡ true = sym lacks ∙ ap c (same_literal-is (false_literal (suc n) b) l same) ∙ member in cc)
    ] refl)
