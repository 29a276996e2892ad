-- Tables and their bits one after another.
use Rattle.std.proofs.Common.{◌≡◌, ℕ, ◌+◌, ◌*◌, ◌^◌, ◌<◌, ◌≤◌, zero, suc, Bool, false, List, [], ◌∷◌, ◌++◌, length, take, drop, get_or, append_assoc, drop-cons, refl, sym, ap, ap₂, ◌∙◌, arith, add-one}
use Rattle.std.specs.List.{flat_map}
use Rattle.std.proofs.lemmas.List.Concat.{flat_map-append}
use Rattle.std.proofs.lemmas.List.{take_more, append-nil, length-append, get_or-take, get_or-drop, length-drop, length-take-le, drop-drop}
use Rattle.std.proofs.lemmas.List.Sums.{sum_by-cons}
use Rattle.bb_bits.specs.Tables.{TableBits, table_bit}
use Rattle.bb_net.specs.Completions.{table_bits}
use Rattle.bb_net.specs.Netlists.{Pins, box_at}
use Rattle.bb_net.specs.Values.{FitBoxes, table_at}
use Rattle.bb_cnf.specs.Truth.{assignment_of}
use Rattle.bb_expand.specs.Expansions.{table_variable}
use Rattle.bb_expand.specs.Inside.ReadTables.{bits_of_table, table_in, tables_in}
use Rattle.bb_expand.proofs.RowLemmas.{bits_fit, bits_more, row_fits}

table_bits-cons : (pins : Pins) (boxes : List Pins) → table_bits (pins ∷ boxes) ≡ bits_of_table pins + table_bits boxes
table_bits-cons pins boxes = sum_by-cons bits_of_table pins boxes

pub length-tables_in : (boxes : List Pins) (bits : List Bool) → length (tables_in boxes bits) ≡ length boxes
length-tables_in [] bits = refl
length-tables_in (pins ∷ boxes) bits = ap suc (length-tables_in boxes (drop (bits_of_table pins) bits))

-- a table that was read has the bits after those of the boxes before it
pub table_read : (boxes : List Pins) (bits : List Bool) (b : ℕ) → b < length boxes → table_at (tables_in boxes bits) b ≡ table_in (box_at boxes b) (drop (table_bits (take b boxes)) bits)
table_read [] bits b h = absurd (omega (arith, h))
table_read (pins ∷ boxes) bits zero h = refl
table_read (pins ∷ boxes) bits (suc b) h =
    table_read boxes (drop (bits_of_table pins) bits) b (omega (arith, h))
    ∙ ap (table_in (box_at boxes b)) (drop-drop (table_bits (take b boxes)) (bits_of_table pins) bits ∙ ap (λ n. drop n bits) (sym (table_bits-cons pins (take b boxes))))

-- where those of the first boxes are read, one more is read after them
pub read_more : (boxes : List Pins) (bits : List Bool) (k start : ℕ) (tables : List TableBits) (t : TableBits) → k < length boxes → t ≡ table_in (box_at boxes k) (drop start bits)
    → tables ++ tables_in (drop k boxes) (drop start bits) ≡ tables_in boxes bits
    → (tables ++ t ∷ []) ++ tables_in (drop (k + 1) boxes) (drop (start + bits_of_table (box_at boxes k)) bits) ≡ tables_in boxes bits
read_more boxes bits k start tables t there is so_far =
    let none : Pins = record { ins = []; outs = [] } in
    let prefix = ap (λ bs. tables_in bs (drop start bits)) (drop-cons boxes k none there) in
    let rest = ap₂ tables_in (ap (λ n. drop n boxes) (add-one k)) (sym (drop-drop (bits_of_table (box_at boxes k)) start bits)) in
    append_assoc tables (t ∷ []) _ ∙ (ap (λ ts. tables ++ ts) (ap₂ (λ u ts. u ∷ ts) is rest ∙ sym prefix) ∙ so_far)

-- tables that were read fit their boxes
pub read_fit : (boxes : List Pins) (bits : List Bool) → table_bits boxes ≤ length bits → FitBoxes (tables_in boxes bits) boxes
read_fit boxes bits enough = record {
  count = length-tables_in boxes bits;
  inputs = λ b h. ap (λ (t : TableBits). t.inputs) (table_read boxes bits b h);
  outputs = λ b h. ap (λ (t : TableBits). t.outputs) (table_read boxes bits b h);
  whole = λ b h. rw (table_read boxes bits b h) (
      let fits = bits_fit boxes b (record { ins = []; outs = [] }) h in
      let rest = length-drop (table_bits (take b boxes)) bits in
      length-take-le (bits_of_table (box_at boxes b)) (drop (table_bits (take b boxes)) bits) (omega (arith, fits, rest, enough)));
}

-- variables count from 1
pub assigned : (bits : List Bool) (k n : ℕ) → n ≡ k + 1 → get_or bits k false ≡ assignment_of bits n
assigned bits k n e = sym (ap (assignment_of bits) (e ∙ add-one k))

-- their bits are the first variables' bits
pub read_bit : (boxes : List Pins) (bits : List Bool) (b row p : ℕ) → b < length boxes → row < 2 ^ length (box_at boxes b).ins → p < length (box_at boxes b).outs
    → table_bit (table_at (tables_in boxes bits) b) row p ≡ assignment_of bits (table_variable boxes b row p)
read_bit boxes bits b row p h below there =
    let outs : ℕ = length (box_at boxes b).outs in
    let start : ℕ = table_bits (take b boxes) in
    let inside : row * outs + p < bits_of_table (box_at boxes b) = (let fits = row_fits 0 row (2 ^ length (box_at boxes b).ins) outs p (bits_of_table (box_at boxes b)) (omega arith) below there in omega (arith, fits)) in
    ap (λ t. table_bit t row p) (table_read boxes bits b h)
    ∙ get_or-take (bits_of_table (box_at boxes b)) (drop start bits) (row * outs + p) false inside
    ∙ get_or-drop start bits (row * outs + p) false
    ∙ assigned bits (start + (row * outs + p)) (table_variable boxes b row p) (omega arith)

-- the bits of tables, one after another, and how many precede those of a box
pub length-rows : (tables : List TableBits) (boxes : List Pins) → FitBoxes tables boxes → (b : ℕ) → b ≤ length boxes → length (flat_map (λ t. t.rows) (take b tables)) ≡ table_bits (take b boxes)
length-rows tables boxes fit zero h = refl
length-rows tables boxes fit (suc b) h =
    let none : TableBits = record { inputs = 0; outputs = 0; rows = [] } in
    let there : b < length tables = omega (arith, h, fit.count) in
    let one = rw (add-one b) at (take_more tables b none there) in
    let many = rw (add-one b) at (bits_more boxes b (record { ins = []; outs = [] }) (omega (arith, h))) in
    let before = length-rows tables boxes fit b (omega (arith, h)) in
    let whole = fit.whole b (omega (arith, h)) in
    let ins = fit.inputs b (omega (arith, h)) in
    let outs = fit.outputs b (omega (arith, h)) in
    let here : length (table_at tables b).rows ≡ bits_of_table (box_at boxes b) = whole ∙ ap₂ (λ m k. m * 2 ^ k) outs ins in
    ap (λ ts. length (flat_map (λ (t : TableBits). t.rows) ts)) one
    ∙ ap length (flat_map-append (λ (t : TableBits). t.rows) (take b tables) (table_at tables b ∷ []))
    ∙ length-append (flat_map (λ (t : TableBits). t.rows) (take b tables)) ((table_at tables b).rows ++ [])
    ∙ ap₂ (λ m k. m + k) before (ap length (append-nil (table_at tables b).rows) ∙ here)
    ∙ sym many
