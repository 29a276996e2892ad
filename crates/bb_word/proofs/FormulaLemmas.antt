-- What the cells of a netlist without boxes are made of, and that its value gives the bits of these formulas.
use Rattle.std.proofs.Common.{◌≡◌, ◌∙◌, ◌<◌, ℕ, Bool, false, not, ◌&&◌, ◌||◌, List, [], map, length, refl, sym, ap, subst, arith}
use Rattle.std.specs.List.{range_with_len}
use Rattle.std.proofs.Math.Path.{ap₂}
use Rattle.std.proofs.lemmas.List.FromFn.{length-map-range_with_len, get_or-map-range_with_len}
use Rattle.bb_bits.specs.Bits.{xor}
use Rattle.bb_net.specs.declared.cell.Cell.{Cell}
use Rattle.bb_net.specs.declared.cell.Cell.TheVariants as cell
use Rattle.bb_net.specs.Netlists.{Netlist, Pins, cell_at, ReadsBefore, IsOrdered, IsNetlist, IsPinAt}
use Rattle.bb_net.specs.Values.{bit_of, gate, value_of, flat, free_bit, IsValue}
use Rattle.bb_word.specs.Gates.{bits, IsMap}
use Rattle.bb_word.specs.Laws.Formulas.{Formula, formulas, cell_formula, formula_at, formula_bit}
use Rattle.bb_word.specs.Laws.FormulaLaws.{formula_at-meets}

pub bits_map : (x : List Bool) → IsMap formulas bits (formula_bit x)
bits_map x = record {
  zero = refl;
  one = refl;
  inverse = λ a. refl;
  both = λ a b. refl;
  either = λ a b. refl;
  differ = λ a b. refl;
  choice = λ c t e. refl;
}

-- the bit of a formula is what the gate makes of the bits of its parts
bit_gate : (boxes : List Pins) (x : List Bool) (box : ℕ → ℕ → List Bool → Bool) (part : ℕ → Formula) (c : Cell) → ((b p : ℕ) → c ≡ cell.BoxOut b p → ⊥) → formula_bit x (cell_formula part c) ≡ gate boxes x box (λ k. formula_bit x (part k)) c
bit_gate boxes x box part (cell.Const b) none = refl
bit_gate boxes x box part (cell.Input i) none = refl
bit_gate boxes x box part (cell.Not a) none = refl
bit_gate boxes x box part (cell.And a b) none = refl
bit_gate boxes x box part (cell.Or a b) none = refl
bit_gate boxes x box part (cell.Xor a b) none = refl
bit_gate boxes x box part (cell.Mux c t e) none = refl
bit_gate boxes x box part (cell.BoxOut b p) none = absurd (none b p refl)

gate_same : (inputs : ℕ) (boxes : List Pins) (x : List Bool) (box : ℕ → ℕ → List Bool → Bool) (v w : ℕ → Bool) (place : ℕ) (c : Cell) → ((b p : ℕ) → c ≡ cell.BoxOut b p → ⊥) → ReadsBefore inputs boxes place c → ((k : ℕ) → k < place → v k ≡ w k) → gate boxes x box v c ≡ gate boxes x box w c
gate_same inputs boxes x box v w place (cell.Const b) none h same = refl
gate_same inputs boxes x box v w place (cell.Input i) none h same = refl
gate_same inputs boxes x box v w place (cell.Not a) none h same = ap not (same a h)
gate_same inputs boxes x box v w place (cell.And a b) none h same = ap₂ ◌&&◌ (same a h.0) (same b h.1)
gate_same inputs boxes x box v w place (cell.Or a b) none h same = ap₂ ◌||◌ (same a h.0) (same b h.1)
gate_same inputs boxes x box v w place (cell.Xor a b) none h same = ap₂ xor (same a h.0) (same b h.1)
gate_same inputs boxes x box v w place (cell.Mux a b c) none h same = let p = same a h.0 in let q = same b h.1 in let r = same c h.2 in cc
gate_same inputs boxes x box v w place (cell.BoxOut b p) none h same = absurd (none b p refl)

no_box : (net : Netlist) → IsNetlist net → net.boxes ≡ [] → (place : ℕ) → place < length net.cells → (b p : ℕ) → cell_at net.cells place ≡ cell.BoxOut b p → ⊥
no_box net kept none place there b p is =
    let pin = kept.listed place b p there is in
    let at = subst (λ boxes. IsPinAt boxes b p place) none pin in
    omega (arith, at.0)

-- a law of bb_net
abbrev pub OneValue : Type 0
OneValue = (net : Netlist) (x : List Bool) (box : ℕ → ℕ → List Bool → Bool) (bits : List Bool) → IsOrdered net → IsValue net x box bits → bits ≡ value_of net x box

-- the value of a netlist without boxes gives the bits of the formulas
pub flat_formula : OneValue → (net : Netlist) (x z : List Bool) → IsNetlist net → net.boxes ≡ [] → (place : ℕ) → place < length net.cells → bit_of (flat net x z) place ≡ formula_bit x (formula_at net.cells place)
flat_formula one net x z kept none place there =
    let box = free_bit net.boxes z in
    let f : ℕ → Bool = λ k. formula_bit x (formula_at net.cells k) in
    let whole = map f (range_with_len 0 (length net.cells)) in
    let at : (k : ℕ) → k < length net.cells → bit_of whole k ≡ f k = λ k h. get_or-map-range_with_len f 0 (length net.cells) k k false h (omega arith) in
    let value : IsValue net x box whole = record {
      whole = length-map-range_with_len f 0 (length net.cells);
      each = λ k h.
          at k h ∙ ap (formula_bit x) (formula_at-meets net kept.ordered k h)
          ∙ bit_gate net.boxes x box (formula_at net.cells) (cell_at net.cells k) (no_box net kept none k h)
          ∙ gate_same net.inputs net.boxes x box f (bit_of whole) k (cell_at net.cells k) (no_box net kept none k h) (kept.ordered k h) (λ j below. sym (at j (omega arith)));
    } in
    ap (λ l. bit_of l place) (sym (one net x box whole kept.ordered value)) ∙ at place there
