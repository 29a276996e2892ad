-- Clauses by tests: a clause and a list of clauses as bits.
use Rattle.std.proofs.Common.{◌≡◌, ◌↔◌, ℕ, Bool, true, false, not, ◌&&◌, ◌||◌, List, [], ◌∷◌, refl, sym, ◌∙◌, true≢false}
use Rattle.std.specs.Prelude.{if◌then◌else◌}
use Rattle.std.specs.List.{list_any, list_all}
use Rattle.std.proofs.lemmas.List.Elements.{All-nil, All-cons, All-head, All-tail}
use Rattle.std.proofs.lemmas.List.Folds.{Any-from_list_any, list_any-from_Any}
use Rattle.bb_lemmas.proofs.Bits.{and_left, and_right, both_true}
use Rattle.bb_net.specs.Values.{xor}
use Rattle.bb_cnf.specs.declared.clauses.Lit.{Lit}
use Rattle.bb_expand.specs.Expansions.{having}
use Rattle.bb_cnf.specs.Truth.{IsTrueClause, Satisfies}
use Rattle.bb_cnf.specs.Truth as truth

-- whether a clause is true, and whether all are
abbrev pub clause_bit : (ℕ → Bool) → List Lit → Bool
clause_bit v lits = list_any (truth.literal_bit v) lits

abbrev pub all_bits : (ℕ → Bool) → List (List Lit) → Bool
all_bits v clauses = list_all (clause_bit v) clauses

pub satisfies_from : (v : ℕ → Bool) (clauses : List (List Lit)) → all_bits v clauses ≡ true → Satisfies v clauses
satisfies_from v [] e = All-nil (IsTrueClause v)
satisfies_from v (c ∷ clauses) e = All-cons (IsTrueClause v) c clauses (Any-from_list_any (truth.literal_bit v) c (and_left (clause_bit v c) (all_bits v clauses) e)) (satisfies_from v clauses (and_right (clause_bit v c) (all_bits v clauses) e))

pub bits_from : (v : ℕ → Bool) (clauses : List (List Lit)) → Satisfies v clauses → all_bits v clauses ≡ true
bits_from v [] all = refl
bits_from v (c ∷ clauses) all = both_true (clause_bit v c) (all_bits v clauses) (list_any-from_Any (truth.literal_bit v) c (All-head (IsTrueClause v) c clauses all)) (bits_from v clauses (All-tail (IsTrueClause v) c clauses all))

-- two bits are the same
abbrev pub same : Bool → Bool → Bool
same a b = if a then b else not b

pub same_is : (a b : Bool) → same a b ≡ true → a ≡ b
same_is true true e = refl
same_is true false e = absurd (true≢false (sym e))
same_is false true e = absurd (true≢false (sym e))
same_is false false e = refl

pub is_same : (a b : Bool) → a ≡ b → same a b ≡ true
is_same true true e = refl
is_same true false e = absurd (true≢false e)
is_same false true e = absurd (true≢false (sym e))
is_same false false e = refl

-- the clauses of the gates, by the bits of their variables
unit_bit : (y b : Bool) → ((if not b then not y else y) || false) ≡ same y b
unit_bit true true = refl
unit_bit true false = refl
unit_bit false true = refl
unit_bit false false = refl

pub unit_reports : (v : ℕ → Bool) (y : ℕ) (b : Bool) → IsTrueClause v (having y b ∷ []) ↔ (v y ≡ b)
unit_reports v y b = (
  λ h. same_is (v y) b (sym (unit_bit (v y) b) ∙ list_any-from_Any (truth.literal_bit v) (having y b ∷ []) h),
  λ e. Any-from_list_any (truth.literal_bit v) (having y b ∷ []) (unit_bit (v y) b ∙ is_same (v y) b e),
)

pub not_bits : (y a : Bool) → ((y || (a || false)) && ((not y || (not a || false)) && true)) ≡ same y (not a)
not_bits true true = refl
not_bits true false = refl
not_bits false true = refl
not_bits false false = refl

pub and_bits : (y a b : Bool) → ((not y || (a || false)) && ((not y || (b || false)) && ((y || (not a || (not b || false))) && true))) ≡ same y (a && b)
and_bits true true true = refl
and_bits true true false = refl
and_bits true false true = refl
and_bits true false false = refl
and_bits false true true = refl
and_bits false true false = refl
and_bits false false true = refl
and_bits false false false = refl

pub or_bits : (y a b : Bool) → ((y || (not a || false)) && ((y || (not b || false)) && ((not y || (a || (b || false))) && true))) ≡ same y (a || b)
or_bits true true true = refl
or_bits true true false = refl
or_bits true false true = refl
or_bits true false false = refl
or_bits false true true = refl
or_bits false true false = refl
or_bits false false true = refl
or_bits false false false = refl

pub xor_bits : (y a b : Bool) → ((not y || (a || (b || false))) && ((not y || (not a || (not b || false))) && ((y || (not a || (b || false))) && ((y || (a || (not b || false))) && true)))) ≡ same y (xor a b)
xor_bits true true true = refl
xor_bits true true false = refl
xor_bits true false true = refl
xor_bits true false false = refl
xor_bits false true true = refl
xor_bits false true false = refl
xor_bits false false true = refl
xor_bits false false false = refl

pub mux_bits : (y c t e : Bool) → ((not c || (not t || (y || false))) && ((not c || (t || (not y || false))) && ((c || (not e || (y || false))) && ((c || (e || (not y || false))) && true)))) ≡ same y (if c then t else e)
mux_bits true true true true = refl
mux_bits true true true false = refl
mux_bits true true false true = refl
mux_bits true true false false = refl
mux_bits true false true true = refl
mux_bits true false true false = refl
mux_bits true false false true = refl
mux_bits true false false false = refl
mux_bits false true true true = refl
mux_bits false true true false = refl
mux_bits false true false true = refl
mux_bits false true false false = refl
mux_bits false false true true = refl
mux_bits false false true false = refl
mux_bits false false false true = refl
mux_bits false false false false = refl
