-- Lemmas on tables and their rows.
use Rattle.std.proofs.Common.{◌≡◌, ℕ, zero, suc, ◌+◌, ◌*◌, ◌<◌, ◌≤◌, ◌^◌, Bool, false, List, [], ◌∷◌, ◌++◌, length, map, take, drop, get_or, refl, sym, ap, ap₂, subst, ◌∙◌, arith, inl, inr, zero-mul, length-append, length-drop}
use Rattle.std.specs.Prelude.{All}
use Rattle.std.specs.List.{flat_map, range_with_len}
use Rattle.std.proofs.Math.Seq.{take-add}
use Rattle.std.proofs.lemmas.Bool.{cases_lt}
use Rattle.std.proofs.lemmas.Nat.{pow_below, mul-le, row_fits}
use Rattle.std.proofs.lemmas.List.{length-take-le, get_or-take, get_or-drop, take_at, take_all, drop_at, drop-drop, append-nil}
use Rattle.std.proofs.lemmas.List.Concat.{flat_map-append}
use Rattle.std.proofs.lemmas.List.Elements.{All-from_get_or, All-head, All-tail}
use Rattle.std.proofs.lemmas.List.FromFn.{length-map-range_with_len, get_or-map-range_with_len, map-range_with_len_more, fill_by_all}
use Rattle.bb_bits.specs.Numbers.{number_of}
use Rattle.bb_bits.specs.Tables.{TableBits, HasAllBits, row_of, table_bit, rows_of}
use Rattle.bb_bits.specs.Contents.{HasShape, row_at, output_bit}
use Rattle.bb_bits.proofs.NumberLemmas.{number_of-below}

-- a table with an output has few inputs
pub few_inputs : (inputs outputs : ℕ) → 0 < outputs → outputs * 2 ^ inputs ≤ 2 ^ 24 → inputs ≤ 24
few_inputs inputs outputs h small = elim (cases_lt 24 inputs) [
  | inl more ↦
      let p = pow_below 24 inputs more in
      let q : 1 * 2 ^ inputs ≤ outputs * 2 ^ inputs = mul-le 1 (2 ^ inputs) outputs (2 ^ inputs) (omega arith) (omega arith) in
      absurd (omega (arith, p, q))
  | inr few ↦ few
]

-- a row is in the table
pub row_within : (t : TableBits) (row : ℕ) → HasAllBits t → row < 2 ^ t.inputs → row * t.outputs + t.outputs ≤ length t.rows
row_within t row whole h = let p = row_fits row t.outputs (2 ^ t.inputs) t.outputs h (omega arith) in omega (arith, p, whole)

pub length-row_of : (t : TableBits) (row : ℕ) → HasAllBits t → row < 2 ^ t.inputs → length (row_of t row) ≡ t.outputs
length-row_of t row whole h =
    let p = row_within t row whole h in
    length-take-le t.outputs (drop (row * t.outputs) t.rows) (omega (arith, length-drop (row * t.outputs) t.rows, p))

pub row_of-bit : (t : TableBits) (row pin : ℕ) → pin < t.outputs → get_or (row_of t row) pin false ≡ table_bit t row pin
row_of-bit t row pin h = get_or-take t.outputs (drop (row * t.outputs) t.rows) pin false h ∙ get_or-drop (row * t.outputs) t.rows pin false

pub rows_of-at : (t : TableBits) (row : ℕ) → row < 2 ^ t.inputs → get_or (rows_of t) row [] ≡ row_of t row
rows_of-at t row h = get_or-map-range_with_len (row_of t) 0 (2 ^ t.inputs) row row [] h (omega arith)

pub HasShape-rows_of : (t : TableBits) → HasAllBits t → HasShape t.inputs t.outputs (rows_of t)
HasShape-rows_of t whole =
    let count = length-map-range_with_len (row_of t) 0 (2 ^ t.inputs) in
    record {
      count = count;
      widths = All-from_get_or (λ row. length row ≡ t.outputs) (rows_of t) [] (λ i h.
          let below : i < 2 ^ t.inputs = omega (arith, count, h) in
          subst (λ row. length row ≡ t.outputs) (sym (rows_of-at t i below)) (length-row_of t i whole below));
    }

pub row_at-rows_of : (t : TableBits) (ins : List Bool) → length ins ≡ t.inputs → row_at (rows_of t) ins ≡ row_of t (number_of ins)
row_at-rows_of t ins len = rows_of-at t (number_of ins) (subst (λ n. number_of ins < 2 ^ n) len (number_of-below ins))

pub output_bit-rows_of : (t : TableBits) (ins : List Bool) (pin : ℕ) → length ins ≡ t.inputs → pin < t.outputs → output_bit (rows_of t) ins pin ≡ table_bit t (number_of ins) pin
output_bit-rows_of t ins pin len h = ap (λ row. get_or row pin false) (row_at-rows_of t ins len) ∙ row_of-bit t (number_of ins) pin h

-- rows one after another
abbrev joined : List (List Bool) → List Bool
joined rows = flat_map (λ row. row) rows

length-joined : (m : ℕ) (rows : List (List Bool)) → All (λ row. length row ≡ m) rows → length (joined rows) ≡ m * length rows
length-joined m [] h = omega arith
length-joined m (row ∷ rows) h =
    let first = All-head (λ row. length row ≡ m) row rows h in
    let rest = length-joined m rows (All-tail (λ row. length row ≡ m) row rows h) in
    omega (arith, length-append row (joined rows), first, rest)

-- each row is found again
joined-row : (m : ℕ) (rows : List (List Bool)) → All (λ row. length row ≡ m) rows → (k : ℕ) → k < length rows → get_or rows k [] ≡ take m (drop (k * m) (joined rows))
joined-row m [] h k below = absurd (omega (arith, below))
joined-row m (row ∷ rows) h zero below = sym (rw zero-mul (take_at row (joined rows) m (All-head (λ row. length row ≡ m) row rows h)))
joined-row m (row ∷ rows) h (suc k) below =
    let first = All-head (λ row. length row ≡ m) row rows h in
    let step : m + k * m ≡ suc k * m = omega arith in
    joined-row m rows (All-tail (λ row. length row ≡ m) row rows h) k (omega arith)
    ∙ ap (λ bits. take m (drop (k * m) bits)) (sym (drop_at row (joined rows) m first))
    ∙ ap (take m) (drop-drop (k * m) m (row ++ joined rows))
    ∙ ap (λ n. take m (drop n (row ++ joined rows))) step

pub table_of_rows : (inputs outputs : ℕ) (rows : List (List Bool)) → HasShape inputs outputs rows → (t : TableBits) × (t.inputs ≡ inputs) × (t.outputs ≡ outputs) × HasAllBits t × (rows_of t ≡ rows)
table_of_rows inputs outputs rows shape =
    let t : TableBits = record { inputs = inputs; outputs = outputs; rows = joined rows } in
    let same = fill_by_all (row_of t) rows (2 ^ inputs) [] shape.count (λ k h. joined-row outputs rows shape.widths k (omega (arith, shape.count, h))) in
    (t, refl, refl, length-joined outputs rows shape.widths ∙ ap (λ n. outputs * n) shape.count, sym same)

-- the first rows of some bits, one after another, are those bits
joined-rows : (m n : ℕ) (bits : List Bool) → joined (map (λ k. take m (drop (k * m) bits)) (range_with_len 0 n)) ≡ take (n * m) bits
joined-rows m zero bits = rw zero-mul refl
joined-rows m (suc n) bits =
    let f : ℕ → List Bool = λ k. take m (drop (k * m) bits) in
    let step : n * m + m ≡ suc n * m = omega arith in
    let next : n + 1 ≡ suc n = omega arith in
    ap (λ k. joined (map f (range_with_len 0 k))) (sym next)
    ∙ ap joined (map-range_with_len_more f 0 n n (omega arith))
    ∙ flat_map-append (λ row. row) (map f (range_with_len 0 n)) (f n ∷ [])
    ∙ ap₂ ◌++◌ (joined-rows m n bits) (append-nil (f n))
    ∙ sym (take-add (n * m) m bits)
    ∙ ap (λ k. take k bits) step

joined-rows_of : (t : TableBits) → HasAllBits t → joined (rows_of t) ≡ t.rows
joined-rows_of t whole = joined-rows t.outputs (2 ^ t.inputs) t.rows ∙ take_all (2 ^ t.inputs * t.outputs) t.rows (omega (arith, whole))

pub rows_fix_table : (t u : TableBits) → HasAllBits t → HasAllBits u → t.inputs ≡ u.inputs → t.outputs ≡ u.outputs → rows_of t ≡ rows_of u → t ≡ u
rows_fix_table t u first second inputs outputs rows =
    let bits : t.rows ≡ u.rows = sym (joined-rows_of t first) ∙ ap joined rows ∙ joined-rows_of u second in
    rw (inputs, outputs, bits) refl
