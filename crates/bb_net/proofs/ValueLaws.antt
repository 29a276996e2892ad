-- A netlist has one value, whatever its boxes give.
use Rattle.std.proofs.Common.{◌≡◌, ℕ, ◌+◌, ◌<◌, zero, suc, Bool, false, List, [], length, take, refl, sym, ◌∙◌, arith}
use Rattle.std.proofs.lemmas.List.FromFn.{length-map-range_with_len, get_or-map-range_with_len, fill_by_all}
use Rattle.bb_net.specs.declared.cell.Cell.{Cell}
use Rattle.bb_net.specs.declared.cell.Cell.TheVariants.{Const, Input, Not, And, Or, Xor, Mux, BoxOut}
use Rattle.bb_net.specs.Netlists.{Netlist, Pins, cell_at, IsPinAt, IsOrdered, IsNetlist}
use Rattle.bb_net.specs.Values.{bit_of, gate, bit_within, bit_at, value_of, output_pins, free_bit, flat, IsValue}
use Rattle.bb_net.proofs.Steps.{IsFilled-unique}
use Rattle.bb_net.proofs.ValueLemmas.{gate_same, value_step, value_step-local}

-- steps beyond the place change nothing
pub bit_within-enough : (net : Netlist) (x : List Bool) (box : ℕ → ℕ → List Bool → Bool) → IsOrdered net → (n m place : ℕ) → place < n → place < m → place < length net.cells → bit_within net.cells net.boxes x box n place ≡ bit_within net.cells net.boxes x box m place
unfolding bit_within
bit_within-enough net x box ordered zero m place p q there = absurd (omega arith)
bit_within-enough net x box ordered (suc n) zero place p q there = absurd (omega arith)
bit_within-enough net x box ordered (suc n) (suc m) place p q there =
    gate_same net.inputs net.boxes x box (bit_within net.cells net.boxes x box n) (bit_within net.cells net.boxes x box m) place (cell_at net.cells place) (ordered place there)
    (λ k below. bit_within-enough net x box ordered n m k (omega arith) (omega arith) (omega arith))

pub bit_at-gate : (net : Netlist) (x : List Bool) (box : ℕ → ℕ → List Bool → Bool) → IsOrdered net → (place : ℕ) → place < length net.cells → bit_at net.cells net.boxes x box place ≡ gate net.boxes x box (bit_at net.cells net.boxes x box) (cell_at net.cells place)
unfolding bit_within
bit_at-gate net x box ordered place there =
    gate_same net.inputs net.boxes x box (bit_within net.cells net.boxes x box place) (bit_at net.cells net.boxes x box) place (cell_at net.cells place) (ordered place there)
    (λ k below. bit_within-enough net x box ordered place (suc k) k below (omega arith) (omega arith))

pub value_is_unique_lem : (net : Netlist) (x : List Bool) (box : ℕ → ℕ → List Bool → Bool) (bits : List Bool) → IsOrdered net → IsValue net x box bits → bits ≡ value_of net x box
value_is_unique_lem net x box bits ordered value =
    let f : ℕ → Bool = bit_at net.cells net.boxes x box in
    let local = value_step-local net.inputs net.boxes x box net.cells ordered in
    fill_by_all f bits (length net.cells) false value.whole
    (λ k there. IsFilled-unique (value_step net.boxes x box net.cells) (bit_of bits) f (length net.cells) local value.each (bit_at-gate net x box ordered) (suc k) k (omega arith) there)

pub value_exists_lem : (net : Netlist) (x : List Bool) (box : ℕ → ℕ → List Bool → Bool) → IsOrdered net → IsValue net x box (value_of net x box)
value_exists_lem net x box ordered =
    let f : ℕ → Bool = bit_at net.cells net.boxes x box in
    let at : (k : ℕ) → k < length net.cells → bit_of (value_of net x box) k ≡ f k = λ k there. get_or-map-range_with_len f 0 (length net.cells) k k false there (omega arith) in
    record {
      whole = length-map-range_with_len f 0 (length net.cells);
      each = λ place there.
          at place there ∙ bit_at-gate net x box ordered place there
          ∙ gate_same net.inputs net.boxes x box f (bit_of (value_of net x box)) place (cell_at net.cells place) (ordered place there) (λ k below. sym (at k (omega arith)));
    }

-- with the bits of the box outputs in their places, the written bits are the value
gate_free : (boxes : List Pins) (x z : List Bool) (here : Bool) (value : ℕ → Bool) (c : Cell) → ((b p : ℕ) → c ≡ BoxOut b p → here ≡ bit_of z (output_pins (take b boxes) + p)) → gate [] x (λ b p ins. here) value c ≡ gate boxes x (free_bit boxes z) value c
gate_free boxes x z here value (Const b) h = refl
gate_free boxes x z here value (Input i) h = refl
gate_free boxes x z here value (Not a) h = refl
gate_free boxes x z here value (And a b) h = refl
gate_free boxes x z here value (Or a b) h = refl
gate_free boxes x z here value (Xor a b) h = refl
gate_free boxes x z here value (Mux a b c) h = refl
gate_free boxes x z here value (BoxOut b p) h = h b p refl

pub flat_is : (net : Netlist) (x z placed out : List Bool) → IsNetlist net → length out ≡ length net.cells
    → ((b p place : ℕ) → IsPinAt net.boxes b p place → bit_of placed place ≡ bit_of z (output_pins (take b net.boxes) + p))
    → ((place : ℕ) → place < length net.cells → bit_of out place ≡ gate [] x (λ b p ins. bit_of placed place) (bit_of out) (cell_at net.cells place))
    → out ≡ flat net x z
flat_is net x z placed out kept len pins each =
    value_is_unique_lem net x (free_bit net.boxes z) out kept.ordered (record {
      whole = len;
      each = λ place there.
          each place there
          ∙ gate_free net.boxes x z (bit_of placed place) (bit_of out) (cell_at net.cells place) (λ b p is. pins b p place (kept.listed place b p there is));
    })
