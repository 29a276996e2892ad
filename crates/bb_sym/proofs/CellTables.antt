-- the tables of the cells of a netlist
use Rattle.std.proofs.Common.{◌≡◌, ◌<◌, ◌≤◌, ℕ, zero, suc, ◌+◌, Bool, not, ◌&&◌, ◌||◌, if◌then◌else◌, List, [], ◌∷◌, length, take, refl, sym, ap, ap₂, ◌∙◌, subst, arith}
use Rattle.std.specs.Prelude.{slice_index_or}
use Rattle.std.proofs.lemmas.List.Sums.{sum_by-cons}
use Rattle.bb_bits.specs.Bits.{xor}
use Rattle.bb_bits.specs.Truth.{Truth, complement_of_table, joined_tables, chosen}
use Rattle.bb_net.specs.declared.cell.Cell.{Cell}
use Rattle.bb_net.specs.declared.cell.Cell.TheVariants.{Const, Input, Not, And, Or, Xor, Mux, BoxOut}
use Rattle.bb_net.specs.Netlists.{Netlist, Pins, IsNetlist, IsOrdered, IsPinAt, ReadsBefore, cell_at, box_at}
use Rattle.bb_net.specs.Values.{bit_of, gate, value_of, free_bit, output_pins, IsValue}
use Rattle.bb_sym.specs.Plain.{Function, Reading, AreVariables, IsReadSo, cell_bit, table}
use Rattle.bb_sym.specs.Inside.Made.{cell_table}
use Rattle.bb_sym.proofs.FunctionTables.{table_same, combined-table, constant-table, variable-table}

-- a netlist has a value
abbrev pub ValueExists : Type 0
ValueExists = (net : Netlist) (x : List Bool) (box : ℕ → ℕ → List Bool → Bool) → IsOrdered net → IsValue net x box (value_of net x box)

-- a cell of a netlist is asked no more where there are more inputs, and what boxes read does not matter
pub reads_more : (inputs n place : ℕ) (boxes : List Pins) (cell : Cell) → inputs ≤ n → ReadsBefore inputs boxes place cell → ReadsBefore n [] place cell
reads_more inputs n place boxes (Const b) le reads = tt
reads_more inputs n place boxes (Input i) le reads = omega (arith, le, reads)
reads_more inputs n place boxes (Not a) le reads = reads
reads_more inputs n place boxes (And a b) le reads = reads
reads_more inputs n place boxes (Or a b) le reads = reads
reads_more inputs n place boxes (Xor a b) le reads = reads
reads_more inputs n place boxes (Mux c t e) le reads = reads
reads_more inputs n place boxes (BoxOut b p) le reads = λ k d l. absurd (omega (arith, l))

-- only the places that a cell reads count
pub cell_table-same : (n first inputs place : ℕ) (starts : List ℕ) (boxes : List Pins) (at by : ℕ → Truth) → ((k : ℕ) → k < place → at k ≡ by k) → (cell : Cell) → ReadsBefore inputs boxes place cell →
    cell_table n first starts at cell ≡ cell_table n first starts by cell
cell_table-same n first inputs place starts boxes at by same (Const b) reads = refl
cell_table-same n first inputs place starts boxes at by same (Input i) reads = refl
cell_table-same n first inputs place starts boxes at by same (Not a) reads = ap complement_of_table (same a reads)
cell_table-same n first inputs place starts boxes at by same (And a b) reads = ap₂ (joined_tables ◌&&◌) (same a reads.0) (same b reads.1)
cell_table-same n first inputs place starts boxes at by same (Or a b) reads = ap₂ (joined_tables ◌||◌) (same a reads.0) (same b reads.1)
cell_table-same n first inputs place starts boxes at by same (Xor a b) reads = ap₂ (joined_tables xor) (same a reads.0) (same b reads.1)
cell_table-same n first inputs place starts boxes at by same (Mux c t e) reads = ap₂ (λ u p. u p) (ap₂ chosen (same c reads.0) (same t reads.1)) (same e reads.2)
cell_table-same n first inputs place starts boxes at by same (BoxOut b p) reads = refl

-- the cell is an input, or an output pin that is there
abbrev pub IsWithinNet : ℕ → List Pins → Cell → Type 0
IsWithinNet inputs boxes (Const b) = Unit {0}
IsWithinNet inputs boxes (Input i) = i < inputs
IsWithinNet inputs boxes (Not a) = Unit {0}
IsWithinNet inputs boxes (And a b) = Unit {0}
IsWithinNet inputs boxes (Or a b) = Unit {0}
IsWithinNet inputs boxes (Xor a b) = Unit {0}
IsWithinNet inputs boxes (Mux c t e) = Unit {0}
IsWithinNet inputs boxes (BoxOut b p) = p < length (box_at boxes b).outs

pub pin_within : (boxes : List Pins) (b p : ℕ) → p < length (box_at boxes b).outs → (b < length boxes) × (output_pins (take b boxes) + p < output_pins boxes)
pin_within [] b p l = absurd (omega (arith, l))
pin_within (pins ∷ boxes) zero p l = (omega arith, omega (arith, l, sum_by-cons (λ (pins : Pins). length pins.outs) pins boxes))
pin_within (pins ∷ boxes) (suc b) p l =
    let rest = pin_within boxes b p l in (
      omega (arith, rest.0),
      omega (arith, rest.1, sum_by-cons (λ (pins : Pins). length pins.outs) pins boxes, sum_by-cons (λ (pins : Pins). length pins.outs) pins (take b boxes)),
    )

-- the tables of the operands give that of the gate
module _ (n first : ℕ) (starts : List ℕ) (net : Netlist) (vars : AreVariables n first starts net) (r : Reading) (reads : IsReadSo n first starts net r) (value : ℕ → Function) where
  gate_table : (cell : Cell) → IsWithinNet net.inputs net.boxes cell → cell_table n first starts (λ k. table n (value k)) cell ≡ table n (λ p. gate net.boxes (r.inputs p) (free_bit net.boxes (r.pins p)) (λ k. value k p) cell)
  gate_table (Const b) there = constant-table n b
  gate_table (Input i) there =
      variable-table n (first + i) (omega (arith, vars.inputs, there)) ∙ table_same n (λ p. bit_of p (first + i)) (λ p. bit_of (r.inputs p) i) (λ p e. sym (reads.inputs i there p e))
  gate_table (Not a) there = combined-table n (λ a b c. not a) (value a) (value a) (value a)
  gate_table (And a b) there = combined-table n (λ a b c. a && b) (value a) (value b) (value a)
  gate_table (Or a b) there = combined-table n (λ a b c. a || b) (value a) (value b) (value a)
  gate_table (Xor a b) there = combined-table n (λ a b c. xor a b) (value a) (value b) (value a)
  gate_table (Mux c t e) there = combined-table n (λ a b d. if a then b else d) (value c) (value t) (value e)
  gate_table (BoxOut b p) there =
      let v = slice_index_or starts b 0 + p in
      variable-table n v (vars.pins b p there).1 ∙ table_same n (λ x. bit_of x v) (λ x. bit_of (r.pins x) (output_pins (take b net.boxes) + p)) (λ x e. sym (reads.pins b p there x e))

cell_within : (net : Netlist) (place : ℕ) (cell : Cell) → cell_at net.cells place ≡ cell → ReadsBefore net.inputs net.boxes place cell → ((b p : ℕ) → cell_at net.cells place ≡ BoxOut b p → IsPinAt net.boxes b p place) → IsWithinNet net.inputs net.boxes cell
cell_within net place (Const b) e reads pin = tt
cell_within net place (Input i) e reads pin = reads
cell_within net place (Not a) e reads pin = tt
cell_within net place (And a b) e reads pin = tt
cell_within net place (Or a b) e reads pin = tt
cell_within net place (Xor a b) e reads pin = tt
cell_within net place (Mux c t e) is reads pin = tt
cell_within net place (BoxOut b p) e reads pin = (pin b p e).0

-- the table of the cell at a place, by those of the earlier ones
pub cell_table-is : ValueExists → (net : Netlist) → IsNetlist net → (n first : ℕ) (starts : List ℕ) → AreVariables n first starts net → (r : Reading) → IsReadSo n first starts net r → (place : ℕ) → place < length net.cells →
    (at : ℕ → Truth) → ((k : ℕ) → k < place → at k ≡ table n (cell_bit r net k)) → cell_table n first starts at (cell_at net.cells place) ≡ table n (cell_bit r net place)
cell_table-is exists net kept n first starts vars r reads place there at same =
    let cell = cell_at net.cells place in
    let before = kept.ordered place there in
    cell_table-same n first net.inputs place starts net.boxes at (λ k. table n (cell_bit r net k)) same cell before
    ∙ (gate_table n first starts net vars r reads (cell_bit r net) cell (cell_within net place cell refl before (λ b p e. kept.listed place b p there e))
    ∙ table_same n (λ p. gate net.boxes (r.inputs p) (free_bit net.boxes (r.pins p)) (λ k. cell_bit r net k p) cell) (cell_bit r net place)
    (λ p e. sym ((exists net (r.inputs p) (free_bit net.boxes (r.pins p)) kept.ordered).each place there)))

-- the variables of inputs and output pins are there
pub input_variable : (net : Netlist) → IsNetlist net → (n first : ℕ) (starts : List ℕ) → AreVariables n first starts net → (place i : ℕ) → place < length net.cells → cell_at net.cells place ≡ Input i → first + i < n
input_variable net kept n first starts vars place i there is =
    let reads = subst (ReadsBefore net.inputs net.boxes place) is (kept.ordered place there) in
    omega (arith, vars.inputs, reads)

pub pin_variable : (net : Netlist) → IsNetlist net → (n first : ℕ) (starts : List ℕ) → AreVariables n first starts net → (place b p : ℕ) → place < length net.cells → cell_at net.cells place ≡ BoxOut b p → (b < length starts) × (slice_index_or starts b 0 + p < n)
pin_variable net kept n first starts vars place b p there is = vars.pins b p (kept.listed place b p there is).0
