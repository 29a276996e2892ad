-- The bits of the cells of a netlist without boxes.
use Rattle.std.proofs.Common.{◌≡◌, ℕ, ◌<◌, Bool, false, List, [], length, refl, ap, ◌∙◌, subst, arith}
use Rattle.std.proofs.lemmas.List.{get_or_append_left, length-append}
use Rattle.bb_net.specs.declared.cell.Cell.{Cell}
use Rattle.bb_net.specs.declared.cell.Cell.TheVariants.{Const, Input, Not, And, Or, Xor, Mux, BoxOut}
use Rattle.bb_net.specs.Netlists.{Netlist, IsNetlist, IsOrdered, Pins, box_at, cell_at}
use Rattle.bb_net.specs.Values.{free_bit, gate, value_of, IsValue}
use Rattle.bb_subst.specs.Embeddings.{OccursAt}
use Rattle.bb_subst.specs.Laws.EmbeddingLaws.{OccurrencesKeepBits}
use Rattle.bb_strash.specs.Inside.Extensions.{bit, gate_bit, Extends}
use Rattle.bb_strash.specs.Laws.{BitsAreGates, BitsStay}

abbrev pub ValueExists : Type 0
ValueExists = (net : Netlist) (x : List Bool) (box : ℕ → ℕ → List Bool → Bool) → IsOrdered net → IsValue net x box (value_of net x box)

-- a netlist without boxes has no cell that is a pin of one
pub no_pin : (net : Netlist) → IsNetlist net → net.boxes ≡ [] → (place b p : ℕ) → place < length net.cells → cell_at net.cells place ≡ BoxOut b p → ⊥
no_pin net kept none place b p h is =
    let listed : p < length (box_at net.boxes b).outs = (kept.listed place b p h is).0 in
    let never : p < length (box_at [] b).outs = subst (λ (l : List Pins). p < length (box_at l b).outs) none listed in
    omega (arith, never)

-- a gate goes by what it reads
same_gate : (boxes : List Pins) (x : List Bool) (box : ℕ → ℕ → List Bool → Bool) (value : ℕ → Bool) (c : Cell) → ((b p : ℕ) → c ≡ BoxOut b p → ⊥) → gate boxes x box value c ≡ gate_bit x value c
same_gate boxes x box value (Const b) none = refl
same_gate boxes x box value (Input i) none = refl
same_gate boxes x box value (Not a) none = refl
same_gate boxes x box value (And a b) none = refl
same_gate boxes x box value (Or a b) none = refl
same_gate boxes x box value (Xor a b) none = refl
same_gate boxes x box value (Mux c t e) none = refl
same_gate boxes x box value (BoxOut b p) none = absurd (none b p refl)

pub bits_are_gates : ValueExists → BitsAreGates
bits_are_gates exists net kept none x place h =
    (exists net x (free_bit net.boxes []) kept.ordered).each place h
    ∙ same_gate net.boxes x (free_bit net.boxes []) (bit net x) (cell_at net.cells place) (λ b p is. no_pin net kept none place b p h is)

occurs_still : (cells : List Cell) (c : Cell) (k : ℕ) → cell_at cells k ≡ c → OccursAt cells (λ j. j) c k
occurs_still cells (Const b) k is = is
occurs_still cells (Input i) k is = is
occurs_still cells (Not a) k is = is
occurs_still cells (And a b) k is = is
occurs_still cells (Or a b) k is = is
occurs_still cells (Xor a b) k is = is
occurs_still cells (Mux c t e) k is = is
occurs_still cells (BoxOut b p) k is = tt

pub longer : (old new : Netlist) (most : ℕ) → Extends old new most → (k : ℕ) → k < length old.cells → k < length new.cells
longer old new most more k h = omega (arith, h, ap length more.cells ∙ length-append old.cells more.more)

pub bits_stay : OccurrencesKeepBits → BitsStay
bits_stay keeps old new most more x place h =
    keeps old new (λ j. j) more.before more.after (record {
      inputs = more.inputs;
      there = longer old new most more;
      cells = λ k lt. occurs_still new.cells (cell_at old.cells k) k (ap (λ l. cell_at l k) more.cells ∙ get_or_append_left old.cells more.more (Const false) k lt);
    }) x (free_bit old.boxes []) (free_bit new.boxes []) (λ k b p lt is. absurd (no_pin old more.before more.none k b p lt is)) place h
