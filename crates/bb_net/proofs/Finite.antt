-- Searches through finitely many cases: the numbers below a bound, the lists of so many bits, and lists of tables.
use Rattle.std.proofs.Common.{◌≡◌, ◌≢◌, ℕ, ◌*◌, ◌^◌, ◌<◌, ◌⊎◌, zero, suc, Bool, true, false, List, [], ◌∷◌, length, refl, sym, ap, subst, inl, inr, arith}
use Rattle.std.proofs.lemmas.Bool.{cases_eq}
use Rattle.std.proofs.lemmas.List.{nil_from_length}
use Rattle.bb_bits.specs.Tables.{TableBits, HasAllBits}
use Rattle.bb_net.specs.Netlists.{Pins, box_at}
use Rattle.bb_net.specs.Values.{FitBoxes, table_at}

pub bits_cases : (a b : Bool) → (a ≡ b) ⊎ (a ≢ b)
bits_cases true true = inl refl
bits_cases true false = inr (λ e. cc)
bits_cases false true = inr (λ e. cc)
bits_cases false false = inl refl

lists_cases : {X : Type 0} → ((a b : X) → (a ≡ b) ⊎ (a ≢ b)) → (xs ys : List X) → (xs ≡ ys) ⊎ (xs ≢ ys)
lists_cases each [] [] = inl refl
lists_cases each [] (y ∷ ys) = inr (λ e. cc)
lists_cases each (x ∷ xs) [] = inr (λ e. cc)
lists_cases each (x ∷ xs) (y ∷ ys) = elim (each x y) [
  | inl first ↦ elim (lists_cases each xs ys) [ inl rest ↦ inl (cc) | inr other ↦ inr (λ e. other (cc)) ]
  | inr other ↦ inr (λ e. other (cc))
]

pub bit_lists_cases : (xs ys : List (List Bool)) → (xs ≡ ys) ⊎ (xs ≢ ys)
bit_lists_cases = lists_cases (lists_cases bits_cases)

-- P holds of each number below n, or Q of one of them
pub below_or_one : (P Q : ℕ → Type 0) (n : ℕ) → ((k : ℕ) → k < n → P k ⊎ Q k) → ((k : ℕ) → k < n → P k) ⊎ ((k : ℕ) × (k < n) × Q k)
below_or_one P Q zero each = inl (λ k h. absurd (omega arith))
below_or_one P Q (suc n) each = elim (below_or_one P Q n (λ k h. each k (omega arith))) [
  | inl all ↦ elim (each n (omega arith)) [
    | inl here ↦ inl (λ k h. elim (cases_eq k n) [ inl e ↦ subst P (sym e) here | inr ne ↦ all k (omega arith) ])
    | inr here ↦ inr (n, omega arith, here)
  ]
  | inr one ↦ inr (one.0, omega (arith, one.1), one.2)
]

by_first_bit : (P : List Bool → Type 0) (n : ℕ) → ((xs : List Bool) → length xs ≡ n → P (false ∷ xs)) → ((xs : List Bool) → length xs ≡ n → P (true ∷ xs)) → (xs : List Bool) → length xs ≡ suc n → P xs
by_first_bit P n low high [] len = absurd (omega (arith, len))
by_first_bit P n low high (false ∷ xs) len = low xs (omega (arith, len))
by_first_bit P n low high (true ∷ xs) len = high xs (omega (arith, len))

-- P holds of each list of n bits, or Q of one of them
pub lists_or_one : (P Q : List Bool → Type 0) (n : ℕ) → ((xs : List Bool) → length xs ≡ n → P xs ⊎ Q xs) → ((xs : List Bool) → length xs ≡ n → P xs) ⊎ ((xs : List Bool) × (length xs ≡ n) × Q xs)
lists_or_one P Q zero each = elim (each [] refl) [
  | inl all ↦ inl (λ xs len. subst P (sym (nil_from_length xs len)) all)
  | inr one ↦ inr ([], refl, one)
]
lists_or_one P Q (suc n) each =
    elim (lists_or_one (λ xs. P (false ∷ xs)) (λ xs. Q (false ∷ xs)) n (λ xs len. each (false ∷ xs) (ap suc len))) [
      | inl low ↦ elim (lists_or_one (λ xs. P (true ∷ xs)) (λ xs. Q (true ∷ xs)) n (λ xs len. each (true ∷ xs) (ap suc len))) [
        | inl high ↦ inl (by_first_bit P n low high)
        | inr one ↦ inr (true ∷ one.0, ap suc one.1, one.2)
      ]
      | inr one ↦ inr (false ∷ one.0, ap suc one.1, one.2)
    ]

-- the table of a box with these bits
abbrev table_for : Pins → List Bool → TableBits
table_for pins bits = record { inputs = length pins.ins; outputs = length pins.outs; rows = bits }

FitBoxes-nil : FitBoxes [] []
FitBoxes-nil = record { count = refl; inputs = λ b h. absurd (omega (arith, h)); outputs = λ b h. absurd (omega (arith, h)); whole = λ b h. absurd (omega (arith, h)) }

by_place : (P : ℕ → Type 0) (n : ℕ) → P zero → ((b : ℕ) → b < n → P (suc b)) → (b : ℕ) → b < suc n → P b
by_place P n first rest zero h = first
by_place P n first rest (suc b) h = rest b (omega arith)

FitBoxes-cons : (pins : Pins) (boxes : List Pins) (bits : List Bool) (tables : List TableBits) → length bits ≡ length pins.outs * 2 ^ length pins.ins → FitBoxes tables boxes → FitBoxes (table_for pins bits ∷ tables) (pins ∷ boxes)
FitBoxes-cons pins boxes bits tables len fit = record {
  count = ap suc fit.count;
  inputs = by_place (λ b. (table_at (table_for pins bits ∷ tables) b).inputs ≡ length (box_at (pins ∷ boxes) b).ins) (length boxes) refl fit.inputs;
  outputs = by_place (λ b. (table_at (table_for pins bits ∷ tables) b).outputs ≡ length (box_at (pins ∷ boxes) b).outs) (length boxes) refl fit.outputs;
  whole = by_place (λ b. HasAllBits (table_at (table_for pins bits ∷ tables) b)) (length boxes) len fit.whole;
}

FitBoxes-rest : (t : TableBits) (tables : List TableBits) (pins : Pins) (boxes : List Pins) → FitBoxes (t ∷ tables) (pins ∷ boxes) → FitBoxes tables boxes
FitBoxes-rest t tables pins boxes fit = record {
  count = omega (arith, fit.count);
  inputs = λ b h. fit.inputs (suc b) (omega arith);
  outputs = λ b h. fit.outputs (suc b) (omega arith);
  whole = λ b h. fit.whole (suc b) (omega arith);
}

table_is : (inputs outputs : ℕ) (t : TableBits) → t.inputs ≡ inputs → t.outputs ≡ outputs → t ≡ record { inputs = inputs; outputs = outputs; rows = t.rows }
table_is inputs outputs t e f = rw (e, f) refl

-- some tables for the boxes have Q, or none
pub tables_or_none : (boxes : List Pins) (Q : List TableBits → Type 0) → ((ts : List TableBits) → Q ts ⊎ (Q ts → ⊥)) → ((ts : List TableBits) → FitBoxes ts boxes → Q ts → ⊥) ⊎ ((ts : List TableBits) × FitBoxes ts boxes × Q ts)
tables_or_none [] Q each = elim (each []) [
  | inl has ↦ inr ([], FitBoxes-nil, has)
  | inr not ↦ inl (λ ts fit has. not (subst Q (nil_from_length ts fit.count) has))
]
tables_or_none (pins ∷ boxes) Q each =
    let search = lists_or_one
    (λ bits. (ts : List TableBits) → FitBoxes ts boxes → Q (table_for pins bits ∷ ts) → ⊥)
    (λ bits. (ts : List TableBits) × FitBoxes ts boxes × Q (table_for pins bits ∷ ts))
    (length pins.outs * 2 ^ length pins.ins)
    (λ bits len. tables_or_none boxes (λ ts. Q (table_for pins bits ∷ ts)) (λ ts. each (table_for pins bits ∷ ts))) in
    elim search [
      | inl none ↦ inl (none_fit pins boxes Q none)
      | inr one ↦ inr (table_for pins one.0 ∷ one.2.0, FitBoxes-cons pins boxes one.0 one.2.0 one.1 one.2.1, one.2.2)
    ]
  where
    none_fit : (pins : Pins) (boxes : List Pins) (Q : List TableBits → Type 0)
        → ((bits : List Bool) → length bits ≡ length pins.outs * 2 ^ length pins.ins → (ts : List TableBits) → FitBoxes ts boxes → Q (table_for pins bits ∷ ts) → ⊥)
        → (ts : List TableBits) → FitBoxes ts (pins ∷ boxes) → Q ts → ⊥
    none_fit pins boxes Q none [] fit has = absurd (omega (arith, fit.count))
    none_fit pins boxes Q none (t ∷ ts) fit has =
        let e = fit.inputs zero (omega arith) in
        let f = fit.outputs zero (omega arith) in
        let is = table_is (length pins.ins) (length pins.outs) t e f in
        let len = subst (λ (u : TableBits). length t.rows ≡ u.outputs * 2 ^ u.inputs) is (fit.whole zero (omega arith)) in
        none t.rows len ts (FitBoxes-rest t ts pins boxes fit) (subst (λ u. Q (u ∷ ts)) is has)
