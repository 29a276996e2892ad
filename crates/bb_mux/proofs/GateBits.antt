-- Gates that are added to a netlist without boxes.
use Rattle.std.proofs.Common.{◌≡◌, ℕ, suc, ◌+◌, ◌<◌, ◌≤◌, Bool, false, not, ◌&&◌, ◌||◌, List, [], ◌∷◌, ◌++◌, length, refl, sym, ap, ap₂, ◌∙◌, arith}
use Rattle.std.specs.Prelude.{if◌then◌else◌}
use Rattle.std.specs.List.{range_with_len}
use Rattle.std.proofs.lemmas.List.{append_assoc, append-nil, get_or-take, get_or_push, length-append, length-map, length-take}
use Rattle.std.proofs.lemmas.List.FromFn.{get_or-map-range_with_len}
use Rattle.bb_lemmas.proofs.Ranges.{length-range}
use Rattle.bb_net.specs.declared.cell.Cell.{Cell}
use Rattle.bb_net.specs.declared.cell.Cell.TheVariants.{Const, Input, Not, And, Or, Xor, Mux, BoxOut}
use Rattle.bb_net.specs.Netlists.{Netlist, IsNetlist, Pins, ReadsBefore, cell_at, first_cells, with_cell, with_pin}
use Rattle.bb_net.specs.Values.{bit_of, xor}
use Rattle.bb_strash.specs.Inside.Extensions.{bit, gate_bit, Extends, Gives}
use Rattle.bb_strash.specs.Laws.{BitsAreGates, BitsStay}

-- nothing is added
pub adds_none : (net : Netlist) (most : ℕ) → IsNetlist net → net.boxes ≡ [] → Extends net net most
adds_none net most kept none = record {
  before = kept;
  after = kept;
  none = none;
  inputs = refl;
  boxes = none;
  outs = refl;
  more = [];
  cells = sym (append-nil net.cells);
  few = omega arith;
}

-- more may be added than is
pub at_most : (old new : Netlist) (few many : ℕ) → few ≤ many → Extends old new few → Extends old new many
at_most old new few many le e = record {
  before = e.before;
  after = e.after;
  none = e.none;
  inputs = e.inputs;
  boxes = e.boxes;
  outs = e.outs;
  more = e.more;
  cells = e.cells;
  few = omega (arith, e.few, le);
}

-- one after another
pub then_more : (a b c : Netlist) (n m : ℕ) → Extends a b n → Extends b c m → Extends a c (n + m)
then_more a b c n m one two = record {
  before = one.before;
  after = two.after;
  none = one.none;
  inputs = two.inputs ∙ one.inputs;
  boxes = two.boxes;
  outs = two.outs ∙ one.outs;
  more = one.more ++ two.more;
  cells = two.cells ∙ ap (λ l. l ++ two.more) one.cells ∙ append_assoc a.cells one.more two.more;
  few = omega (arith, one.few, two.few, length-append one.more two.more);
}

pub longer : (old new : Netlist) (most k : ℕ) → Extends old new most → k < length old.cells → k < length new.cells
longer old new most k e h = omega (arith, h, ap length e.cells ∙ length-append old.cells e.more)

pub grown : (old new : Netlist) (most : ℕ) → Extends old new most → length new.cells ≤ length old.cells + most
grown old new most e = omega (arith, e.few, ap length e.cells ∙ length-append old.cells e.more)

same_pins : (boxes : List Pins) (place : ℕ) (c : Cell) → ((b p : ℕ) → c ≡ BoxOut b p → ⊥) → with_pin boxes place c ≡ boxes
same_pins boxes place (Const b) none = refl
same_pins boxes place (Input i) none = refl
same_pins boxes place (Not a) none = refl
same_pins boxes place (And a b) none = refl
same_pins boxes place (Or a b) none = refl
same_pins boxes place (Xor a b) none = refl
same_pins boxes place (Mux c t e) none = refl
same_pins boxes place (BoxOut b p) none = absurd (none b p refl)

-- one gate is added
pub pushed : (old new : Netlist) (c : Cell) → IsNetlist old → IsNetlist new → old.boxes ≡ [] → ((b p : ℕ) → c ≡ BoxOut b p → ⊥) → new ≡ with_cell old c → Extends old new 1
pushed old new c kept after none plain is = record {
  before = kept;
  after = after;
  none = none;
  inputs = ap (λ (n : Netlist). n.inputs) is;
  boxes = ap (λ (n : Netlist). n.boxes) is ∙ same_pins old.boxes (length old.cells) c plain ∙ none;
  outs = ap (λ (n : Netlist). n.outs) is;
  more = c ∷ [];
  cells = ap (λ (n : Netlist). n.cells) is;
  few = omega arith;
}

-- it goes by the bits of the cells before it
goes_by : (x : List Bool) (value old : ℕ → Bool) (n m : ℕ) (c : Cell) → ReadsBefore n [] m c → ((k : ℕ) → k < m → value k ≡ old k) → gate_bit x value c ≡ gate_bit x old c
goes_by x value old n m (Const b) reads same = refl
goes_by x value old n m (Input i) reads same = refl
goes_by x value old n m (Not a) reads same = ap not (same a reads)
goes_by x value old n m (And a b) reads same = ap₂ ◌&&◌ (same a reads.0) (same b reads.1)
goes_by x value old n m (Or a b) reads same = ap₂ ◌||◌ (same a reads.0) (same b reads.1)
goes_by x value old n m (Xor a b) reads same = ap₂ xor (same a reads.0) (same b reads.1)
goes_by x value old n m (Mux c t e) reads same =
    ap₂ (λ (y z : Bool). if value c then y else z) (same t reads.1) (same e reads.2) ∙ ap (λ (y : Bool). if y then old t else old e) (same c reads.0)
goes_by x value old n m (BoxOut b p) reads same = refl

pub pushed_gives : BitsAreGates → BitsStay → (old new : Netlist) (c : Cell) (place : ℕ) → Extends old new 1 → ReadsBefore old.inputs [] (length old.cells) c → new ≡ with_cell old c → place ≡ length old.cells
    → Gives new place (λ x. gate_bit x (bit old x) c)
pushed_gives gates stay old new c place e reads is at = record {
  there = there;
  same = λ x.
      gates new e.after e.boxes x place there
      ∙ ap (gate_bit x (bit new x)) (ap (λ l. cell_at l place) cells ∙ get_or_push old.cells c (Const false) place (sym at))
      ∙ goes_by x (bit new x) (bit old x) old.inputs (length old.cells) c reads (λ k h. stay old new 1 e x k h);
}
  where
    cells : new.cells ≡ old.cells ++ c ∷ []
    cells = ap (λ (n : Netlist). n.cells) is

    there : place < length new.cells
    there = omega (arith, at, ap length cells ∙ length-append old.cells (c ∷ []))

-- the cells with which a netlist begins
pub first_long : (inputs : ℕ) → length (first_cells inputs) ≡ inputs + 2
first_long inputs = omega (arith, length-map (range_with_len 0 inputs) Input, length-range 0 inputs)

pub begins : (net : Netlist) → IsNetlist net → net.inputs + 2 ≤ length net.cells
begins net kept = omega (arith, ap length kept.prefix, first_long net.inputs, length-take (net.inputs + 2) net.cells)

-- an input has its bit
pub input_bit : BitsAreGates → (net : Netlist) → IsNetlist net → net.boxes ≡ [] → (x : List Bool) (i : ℕ) → i < net.inputs → bit net x (i + 2) ≡ bit_of x i
input_bit gates net kept none x i h =
    gates net kept none x (i + 2) (omega (arith, h, begins net kept))
    ∙ ap (gate_bit x (bit net x)) (sym (get_or-take (net.inputs + 2) net.cells (i + 2) (Const false) (omega (arith, h))) ∙ ap (λ l. cell_at l (i + 2)) kept.prefix ∙ input_at net.inputs i h)
  where
    input_at : (n i : ℕ) → i < n → cell_at (first_cells n) (i + 2) ≡ Input i
    input_at n i h =
        let two : i + 2 ≡ suc (suc i) = omega arith in
        ap (cell_at (first_cells n)) two ∙ get_or-map-range_with_len Input 0 n i i (Const false) h (omega arith)
