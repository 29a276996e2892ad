-- What is said of a window, of a miter and of a swept netlist is said of what they were made of.
use Rattle.std.proofs.Common.{◌≡◌, ℕ, ◌<◌, ◌≤◌, Bool, true, false, List, [], length, map, refl, sym, ap, ◌∙◌, arith, true≢false}
use Rattle.std.specs.Prelude.{slice_index}
use Rattle.std.proofs.lemmas.List.{length-map}
use Rattle.bb_net.specs.Equivalence.{out_bit, wanted_bit}
use Rattle.bb_net.specs.Netlists.{Netlist}
use Rattle.bb_net.specs.Values.{flat, xor}
use Rattle.bb_miter.specs.Inside.Equivalence.{AreComparable, AreEquivalent, DiffersAt}
use Rattle.bb_strash.specs.Inside.Extensions.{bit}
use Rattle.bb_strash.specs.Laws.{ConstantsAreBits}
use Rattle.bb_strash.specs.Inside.Miters.{IsMiter, HasOutputsOf}
use Rattle.bb_strash.specs.Inside.Windows.{IsWindow}
use Rattle.bb_expand.specs.Inside.Cones.{HasNoOne, HasOneAt, IsNeverOne, IsZero}

-- a window beside the netlist whose output is 0
pub window_comparable : (net part zero : Netlist) (place count : ℕ) (leaves : List ℕ) → IsWindow net place part leaves → IsZero count zero → count ≡ length leaves → count ≤ 2048 → AreComparable part zero
window_comparable net part zero place count leaves window is counted few = record {
  inputs = window.inputs ∙ sym counted ∙ sym is.inputs;
  few = omega (arith, is.inputs, few);
  outputs = window.count ∙ sym (ap length is.outs);
  spec_boxes = window.boxes;
  imp_boxes = is.boxes;
}

pub never_in_window : ConstantsAreBits → (net part zero : Netlist) (place count : ℕ) (leaves : List ℕ) → IsWindow net place part leaves → IsZero count zero → count ≡ length leaves → AreEquivalent part zero → IsNeverOne net place
never_in_window constants net part zero place count leaves window is counted same x =
    let y : List Bool = map (bit net x) leaves in
    let fits : length y ≡ zero.inputs = length-map leaves (bit net x) ∙ sym counted ∙ sym is.inputs in
    let one : 0 < length zero.outs = omega (arith, ap length is.outs) in
    sym (window.same x) ∙ sym (same y fits 0 one) ∙ ap (λ (l : List ℕ). bit zero y (slice_index l 0)) is.outs ∙ ((constants zero is.kept is.boxes).1 y).0

-- two bits and their exclusive or
xor_true : (a b : Bool) → xor a b ≡ true → a ≡ b → ⊥
xor_true true true is e = true≢false (sym is)
xor_true false false is e = true≢false (sym is)
xor_true true false is e = true≢false e
xor_true false true is e = true≢false (sym e)

xor_false : (a b : Bool) → xor a b ≡ false → a ≡ b
xor_false true true is = refl
xor_false false false is = refl
xor_false true false is = absurd (true≢false is)
xor_false false true is = absurd (true≢false is)

pub miter_differs : (spec imp net : Netlist) → IsMiter spec imp net → (x : List Bool) → HasOneAt net x → DiffersAt spec imp x
miter_differs spec imp net miter x (j, h, (fits, is)) =
    let lt : j < length imp.outs = omega (arith, h, miter.count) in
    (fits ∙ miter.inputs, (j, lt, xor_true (out_bit imp (flat imp x []) j) (wanted_bit spec x j) (sym (miter.outs x j lt) ∙ is)))

pub miter_equivalent : (spec imp net : Netlist) → IsMiter spec imp net → HasNoOne net → AreEquivalent spec imp
miter_equivalent spec imp net miter none x fits j h =
    xor_false (out_bit imp (flat imp x []) j) (wanted_bit spec x j) (sym (miter.outs x j h) ∙ none j (omega (arith, h, miter.count)) x)

-- a netlist with the same outputs
pub outputs_one : (old new : Netlist) → HasOutputsOf old new → (x : List Bool) → HasOneAt new x → HasOneAt old x
outputs_one old new so x (j, h, (fits, is)) =
    let lt : j < length old.outs = omega (arith, h, so.count) in
    (j, lt, (fits ∙ so.inputs, sym (so.outs x j lt) ∙ is))

pub outputs_none : (old new : Netlist) → HasOutputsOf old new → HasNoOne new → HasNoOne old
outputs_none old new so none j h x = sym (so.outs x j h) ∙ none j (omega (arith, h, so.count)) x

-- cells whose exclusive or is never 1 have one bit
pub never_differ : (a b d : Bool) → d ≡ xor a b → d ≡ false → a ≡ b
never_differ a b d is never = xor_false a b (sym is ∙ never)
