-- The clauses of a netlist's cells at a free vector are true exactly where their variables have the value's bits.
use Rattle.std.proofs.Common.{◌≡◌, ◌↔◌, ℕ, ◌+◌, ◌<◌, ◌≤◌, Bool, true, false, not, ◌&&◌, ◌||◌, List, [], length, map, refl, sym, ap, subst, ◌∙◌, arith}
use Rattle.std.specs.List.{range_with_len}
use Rattle.std.proofs.lemmas.List.FromFn.{length-map-range_with_len, get_or-map-range_with_len}
use Rattle.bb_net.specs.declared.cell.Cell.{Cell}
use Rattle.bb_net.specs.declared.cell.Cell.TheVariants.{Const, Input, Not, And, Or, Xor, Mux, BoxOut}
use Rattle.bb_net.specs.Netlists.{Netlist, Pins, IsNetlist, ReadsBefore, cell_at}
use Rattle.bb_net.specs.Values.{bit_of, gate, free_bit, flat, IsValue}
use Rattle.bb_cnf.specs.Truth.{IsTrueClause, Satisfies}
use Rattle.bb_expand.specs.Laws.{CellClausesSayGate}
use Rattle.bb_expand.specs.Inside.FreeClauses.{equal_clauses, free_cell_clauses, cells_after}
use Rattle.bb_expand.specs.Inside.LawsBelow.{ValueExists, ValueIsUnique}
use Rattle.bb_expand.proofs.BoxesThere.{box_there}
use Rattle.bb_expand.proofs.GateSame.{gate_same}
use Rattle.bb_expand.proofs.Pieces.{piece_holds, pieces_hold}
use Rattle.bb_expand.proofs.Tested.{satisfies_from, bits_from, same, same_is, is_same}

equal_bits : (y z : Bool) → ((not y || (z || false)) && ((y || (not z || false)) && true)) ≡ same y z
equal_bits true true = refl
equal_bits true false = refl
equal_bits false true = refl
equal_bits false false = refl

equal_reports : (v : ℕ → Bool) (y z : ℕ) → Satisfies v (equal_clauses y z) ↔ (v y ≡ v z)
equal_reports v y z = (
  λ all. same_is (v y) (v z) (sym (equal_bits (v y) (v z)) ∙ bits_from v (equal_clauses y z) all),
  λ is. satisfies_from v (equal_clauses y z) (equal_bits (v y) (v z) ∙ is_same (v y) (v z) is),
)

-- one cell, where the inputs have the bits of their variables
cell_reports : CellClausesSayGate → (x : List Bool) (boxes : List Pins) (box : ℕ → ℕ → List Bool → Bool) (var : ℕ → ℕ) (y : ℕ) (v : ℕ → Bool) (cell : Cell) → ((b p : ℕ) → cell ≡ BoxOut b p → ⊥)
    → ((i : ℕ) → cell ≡ Input i → bit_of x i ≡ v (i + 1)) → Satisfies v (free_cell_clauses var y cell) ↔ (v y ≡ gate boxes x box (λ k. v (var k)) cell)
cell_reports law x boxes box var y v (Input i) none input =
    let reports = equal_reports v y (i + 1) in
    (λ all. reports.0 all ∙ sym (input i refl), λ is. reports.1 (is ∙ input i refl))
cell_reports law x boxes box var y v (BoxOut b p) none input = absurd (none b p refl)
cell_reports law x boxes box var y v (Const b) none input = law [] [] [] var y (Const b) v
cell_reports law x boxes box var y v (Not a) none input = law [] [] [] var y (Not a) v
cell_reports law x boxes box var y v (And a b) none input = law [] [] [] var y (And a b) v
cell_reports law x boxes box var y v (Or a b) none input = law [] [] [] var y (Or a b) v
cell_reports law x boxes box var y v (Xor a b) none input = law [] [] [] var y (Xor a b) v
cell_reports law x boxes box var y v (Mux c t e) none input = law [] [] [] var y (Mux c t e) v

pub no_box : (net : Netlist) → IsNetlist net → net.boxes ≡ [] → (place b p : ℕ) → place < length net.cells → cell_at net.cells place ≡ BoxOut b p → ⊥
no_box net kept none place b p h is =
    let there = box_there net.boxes b p (kept.listed place b p h is).0 in
    omega (arith, there, ap length none)

pub input_there : (net : Netlist) → IsNetlist net → (place i : ℕ) → place < length net.cells → cell_at net.cells place ≡ Input i → i < net.inputs
input_there net kept place i h is = subst (ReadsBefore net.inputs net.boxes place) is (kept.ordered place h)

module _ (law : CellClausesSayGate) (exists : ValueExists) (unique : ValueIsUnique) (net : Netlist) (kept : IsNetlist net) (none : net.boxes ≡ []) (base : ℕ) (v : ℕ → Bool) (x : List Bool)
    (inputs : (i : ℕ) → i < net.inputs → bit_of x i ≡ v (i + 1)) where
  abbrev var : ℕ → ℕ
  var k = base + k + 1

  abbrev box : ℕ → ℕ → List Bool → Bool
  box = free_bit net.boxes []

  reports : (place : ℕ) → place < length net.cells → Satisfies v (free_cell_clauses var (var place) (cell_at net.cells place)) ↔ (v (var place) ≡ gate net.boxes x box (λ k. v (var k)) (cell_at net.cells place))
  reports place h = cell_reports law x net.boxes box var (var place) v (cell_at net.cells place) (λ b p is. no_box net kept none place b p h is) (λ i is. inputs i (input_there net kept place i h is))

  abbrev cell_bits : List Bool
  cell_bits = map (λ q. v (var q)) (range_with_len 0 (length net.cells))

  bit_is : (q : ℕ) → q < length net.cells → bit_of cell_bits q ≡ v (var q)
  bit_is q h = get_or-map-range_with_len (λ k. v (var k)) 0 (length net.cells) q q false h (omega arith)

  is_value : Satisfies v (cells_after base net.cells) → IsValue net x box cell_bits
  is_value all = record {
    whole = length-map-range_with_len (λ q. v (var q)) 0 (length net.cells);
    each = λ place h.
        bit_is place h
        ∙ (reports place h).0 (piece_holds (IsTrueClause v) (λ q. free_cell_clauses var (var q) (cell_at net.cells q)) (length net.cells) all place h)
        ∙ gate_same net.inputs net.boxes x box box (λ k. v (var k)) (bit_of cell_bits) place (cell_at net.cells place) (kept.ordered place h)
        (λ k below. sym (bit_is k (omega (arith, below, h)))) (λ b p is. absurd (no_box net kept none place b p h is));
  }

  pub value_bits : Satisfies v (cells_after base net.cells) → (q : ℕ) → q < length net.cells → bit_of (flat net x []) q ≡ v (base + q + 1)
  value_bits all q h = ap (λ value. bit_of value q) (sym (unique net x box cell_bits kept.ordered (is_value all))) ∙ bit_is q h

  pub cells_true : ((q : ℕ) → q < length net.cells → v (base + q + 1) ≡ bit_of (flat net x []) q) → Satisfies v (cells_after base net.cells)
  cells_true are = pieces_hold (IsTrueClause v) (λ q. free_cell_clauses var (var q) (cell_at net.cells q)) (length net.cells) (λ place h.
      (reports place h).1 (
      are place h
      ∙ (exists net x box kept.ordered).each place h
      ∙ gate_same net.inputs net.boxes x box box (bit_of (flat net x [])) (λ k. v (var k)) place (cell_at net.cells place) (kept.ordered place h)
      (λ k below. sym (are k (omega (arith, below, h)))) (λ b p is. absurd (no_box net kept none place b p h is))))

reads_more : (inputs more place : ℕ) (cell : Cell) → inputs ≤ more → ReadsBefore inputs [] place cell → ReadsBefore more [] place cell
reads_more inputs more place (Input i) some reads = omega (arith, some, reads)
reads_more inputs more place cell some reads = reads

-- what a cell reads, where more variables precede the cells than inputs
pub reads_within : (net : Netlist) → IsNetlist net → net.boxes ≡ [] → (more place : ℕ) → net.inputs ≤ more → place < length net.cells → ReadsBefore more [] place (cell_at net.cells place)
reads_within net kept none more place some h =
    reads_more net.inputs more place (cell_at net.cells place) some (subst (λ boxes. ReadsBefore net.inputs boxes place (cell_at net.cells place)) none (kept.ordered place h))
