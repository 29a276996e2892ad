-- A cell's clauses are true exactly where its variable has the gate's bit.
use Rattle.std.proofs.Common.{◌≡◌, ◌↔◌, ◌⊎◌, ℕ, ◌<◌, ◌^◌, Bool, true, false, not, ◌&&◌, ◌||◌, List, [], ◌∷◌, ◌++◌, length, map, refl, sym, ap, subst, ◌∙◌, inl, inr, arith, true≢false}
use Rattle.std.specs.Prelude.{if◌then◌else◌, slice_index}
use Rattle.std.specs.List.{flat_map, range_with_len}
use Rattle.std.proofs.lemmas.Bool.{cases_Bool}
use Rattle.std.proofs.lemmas.List.{length-map}
use Rattle.std.proofs.lemmas.List.Elements.{All-nil, All-cons, All-head}
use Rattle.std.proofs.lemmas.List.Folds.{list_any-append}
use Rattle.bb_lemmas.proofs.Bits.{or_right}
use Rattle.bb_bits.specs.Numbers.{number_of, bits_of}
use Rattle.bb_net.specs.declared.cell.Cell.TheVariants.{Const, Input, Not, And, Or, Xor, Mux, BoxOut}
use Rattle.bb_net.specs.Kinds.{representatives}
use Rattle.bb_net.specs.Netlists.{box_at}
use Rattle.bb_net.specs.Values.{bit_of}
use Rattle.bb_cnf.specs.declared.clauses.Lit.{Lit}
use Rattle.bb_cnf.specs.Clauses.{positive, negated}
use Rattle.bb_cnf.specs.Truth.{IsTrueClause, Satisfies}
use Rattle.bb_cnf.specs.Truth as truth
use Rattle.bb_expand.specs.Expansions.{having, differing, row_clauses, cell_clauses, table_variable}
use Rattle.bb_expand.specs.Inside.LawsBelow.{Numbering}
use Rattle.bb_expand.specs.Laws.{CellClausesSayGate}
use Rattle.bb_expand.proofs.Pieces.{pieces_hold, piece_holds}
use Rattle.bb_expand.proofs.Tested.{clause_bit, all_bits, satisfies_from, bits_from, same, same_is, is_same, unit_reports, not_bits, and_bits, or_bits, xor_bits, mux_bits}

-- from the bits to the law
by_bits : (v : ℕ → Bool) (clauses : List (List Lit)) (y g : Bool) → all_bits v clauses ≡ same y g → Satisfies v clauses ↔ (y ≡ g)
by_bits v clauses y g e = (λ all. same_is y g (sym e ∙ bits_from v clauses all), λ is. satisfies_from v clauses (e ∙ is_same y g is))

unit_law : (v : ℕ → Bool) (y : ℕ) (b : Bool) → Satisfies v ((having y b ∷ []) ∷ []) ↔ (v y ≡ b)
unit_law v y b =
    let reports = unit_reports v y b in
    (λ all. reports.0 (All-head (IsTrueClause v) (having y b ∷ []) [] all), λ is. All-cons (IsTrueClause v) (having y b ∷ []) [] (reports.1 is) (All-nil (IsTrueClause v)))

-- the literal that differs from a bit is true where the bits are not the same
other_bit : (a b : Bool) → (if not (not b) then not a else a) ≡ not (same a b)
other_bit true true = refl
other_bit true false = refl
other_bit false true = refl
other_bit false false = refl

-- the literals of a row are all false where the pins have its bits, and one is true elsewhere
abbrev Differs : (ℕ → Bool) → (ℕ → ℕ) → List ℕ → List Bool → Type 0
Differs v var pins row = ((clause_bit v (differing var pins row) ≡ false) × (map (λ p. v (var p)) pins ≡ row)) ⊎ ((clause_bit v (differing var pins row) ≡ true) × (map (λ p. v (var p)) pins ≡ row → ⊥))

differs_more : (v : ℕ → Bool) (var : ℕ → ℕ) (p : ℕ) (pins : List ℕ) (b : Bool) (row : List Bool) → Differs v var pins row → Differs v var (p ∷ pins) (b ∷ row)
differs_more v var p pins b row (inr other) = inr (or_right _ (clause_bit v (differing var pins row)) other.0, λ e. other.1 (cc e))
differs_more v var p pins b row (inl like) = elim (cases_Bool (same (v (var p)) b)) [
  | inl one ↦ inl (rw (other_bit (v (var p)) b, one, like.0) refl, let h = same_is (v (var p)) b one in cc (h, like.1))
  | inr two ↦ inr (rw (other_bit (v (var p)) b, two) refl, λ e. absurd (true≢false (sym (is_same (v (var p)) b (cc e)) ∙ two)))
]

differs : (v : ℕ → Bool) (var : ℕ → ℕ) (pins : List ℕ) (row : List Bool) → length row ≡ length pins → Differs v var pins row
differs v var [] [] e = inl (refl, refl)
differs v var [] (b ∷ row) e = absurd (omega (arith, e))
differs v var (p ∷ pins) [] e = absurd (omega (arith, e))
differs v var (p ∷ pins) (b ∷ row) e = differs_more v var p pins b row (differs v var pins row (omega (arith, e)))

row_bit : (d y t : Bool) → d ≡ false → ((d || (not y || (t || false))) && ((d || (y || (not t || false))) && true)) ≡ same y t
row_bit false true true e = refl
row_bit false true false e = refl
row_bit false false true e = refl
row_bit false false false e = refl
row_bit true y t e = absurd (true≢false e)

row_true : (d y t : Bool) → d ≡ true → ((d || (not y || (t || false))) && ((d || (y || (not t || false))) && true)) ≡ true
row_true true y t e = refl
row_true false y t e = absurd (true≢false (sym e))

-- the two clauses of a row, where d is whether a literal of the row is true
row_bits : (v : ℕ → Bool) (lits : List Lit) (y t : ℕ) → all_bits v ((lits ++ negated y ∷ positive t ∷ []) ∷ (lits ++ positive y ∷ negated t ∷ []) ∷ [])
    ≡ ((clause_bit v lits || (not (v y) || (v t || false))) && ((clause_bit v lits || (v y || (not (v t) || false))) && true))
row_bits v lits y t = rw (list_any-append (truth.literal_bit v) lits (negated y ∷ positive t ∷ []), list_any-append (truth.literal_bit v) lits (positive y ∷ negated t ∷ [])) refl

-- a row says something where the pins have its bits
row_reports : (v : ℕ → Bool) (var : ℕ → ℕ) (pins : List ℕ) (y t : ℕ) (row : List Bool) → length row ≡ length pins → Satisfies v (row_clauses var pins y row t) ↔ (map (λ p. v (var p)) pins ≡ row → v y ≡ v t)
row_reports v var pins y t row e = elim (differs v var pins row e) [
  | inl like ↦
      let bits = row_bits v (differing var pins row) y t ∙ row_bit (clause_bit v (differing var pins row)) (v y) (v t) like.0 in
      let law = by_bits v (row_clauses var pins y row t) (v y) (v t) bits in
      (λ all is. law.0 all, λ h. law.1 (h like.1))
  | inr other ↦
      let bits = row_bits v (differing var pins row) y t ∙ row_true (clause_bit v (differing var pins row)) (v y) (v t) other.0 in
      (λ all is. absurd (other.1 is), λ h. satisfies_from v (row_clauses var pins y row t) bits)
]

-- all rows say that y is the bit of the row that the pins have
rows_say : Numbering → (v : ℕ → Bool) (var : ℕ → ℕ) (pins : List ℕ) (y : ℕ) (t : ℕ → ℕ)
    → Satisfies v (flat_map (λ row. row_clauses var pins y (bits_of (length pins) row) (t row)) (range_with_len 0 (2 ^ length pins))) ↔ (v y ≡ v (t (number_of (map (λ p. v (var p)) pins))))
rows_say numbering v var pins y t =
    let values : List Bool = map (λ p. v (var p)) pins in
    let wide : length values ≡ length pins = length-map pins (λ p. v (var p)) in
    let below : number_of values < 2 ^ length pins = subst (λ n. number_of values < 2 ^ n) wide (numbering.below values) in
    let here : values ≡ bits_of (length pins) (number_of values) = sym (subst (λ n. bits_of n (number_of values) ≡ values) wide (numbering.once values)) in (
      λ all. (row_reports v var pins y (t (number_of values)) (bits_of (length pins) (number_of values)) (numbering.width (length pins) (number_of values))).0
          (piece_holds (IsTrueClause v) (λ row. row_clauses var pins y (bits_of (length pins) row) (t row)) (2 ^ length pins) all (number_of values) below) here,
      λ is. pieces_hold (IsTrueClause v) (λ row. row_clauses var pins y (bits_of (length pins) row) (t row)) (2 ^ length pins)
          (λ row h. (row_reports v var pins y (t row) (bits_of (length pins) row) (numbering.width (length pins) row)).1
          (λ like. is ∙ ap (λ n. v (t n)) (ap number_of like ∙ numbering.spelled (length pins) row h))),
    )

pub cell_law : Numbering → CellClausesSayGate
cell_law numbering kinds boxes x var y (Const b) v = unit_law v y b
cell_law numbering kinds boxes x var y (Input i) v = unit_law v y (bit_of x i)
cell_law numbering kinds boxes x var y (Not a) v = by_bits v (cell_clauses kinds boxes x var y (Not a)) (v y) (not (v (var a))) (not_bits (v y) (v (var a)))
cell_law numbering kinds boxes x var y (And a b) v = by_bits v (cell_clauses kinds boxes x var y (And a b)) (v y) (v (var a) && v (var b)) (and_bits (v y) (v (var a)) (v (var b)))
cell_law numbering kinds boxes x var y (Or a b) v = by_bits v (cell_clauses kinds boxes x var y (Or a b)) (v y) (v (var a) || v (var b)) (or_bits (v y) (v (var a)) (v (var b)))
cell_law numbering kinds boxes x var y (Xor a b) v = by_bits v (cell_clauses kinds boxes x var y (Xor a b)) (v y) _ (xor_bits (v y) (v (var a)) (v (var b)))
cell_law numbering kinds boxes x var y (Mux c t e) v = by_bits v (cell_clauses kinds boxes x var y (Mux c t e)) (v y) _ (mux_bits (v y) (v (var c)) (v (var t)) (v (var e)))
cell_law numbering kinds boxes x var y (BoxOut b p) v = rows_say numbering v var (box_at boxes b).ins y (λ row. table_variable (representatives kinds boxes) (slice_index kinds b) row p)
