-- Whatever the boxes of a netlist give: at one vector free bits at their output pins give the same value.
use Rattle.std.proofs.Common.{◌≡◌, ℕ, zero, suc, ◌+◌, ◌<◌, Bool, false, List, [], ◌∷◌, ◌++◌, map, length, take, refl, sym, ap, ◌∙◌, arith, length-append}
use Rattle.std.specs.List.{range_with_len}
use Rattle.std.proofs.lemmas.List.{get_or_append_left, get_or-append-add}
use Rattle.std.proofs.lemmas.List.FromFn.{length-map-range_with_len, get_or-map-range_with_len}
use Rattle.std.proofs.lemmas.List.Sums.{sum_by-cons}
use Rattle.bb_net.specs.Equivalence.{AreBoxOutputs}
use Rattle.bb_net.specs.Netlists.{Netlist, Pins, IsNetlist, box_at}
use Rattle.bb_net.specs.Values.{bit_of, value_of, output_pins, free_bit, flat, ValueGoesByBoxes}

-- the bits of output pins, box after box; the first box has the number k
given : ℕ → List Pins → (ℕ → ℕ → Bool) → List Bool
given k [] bit = []
given k (q ∷ qs) bit = map (bit k) (range_with_len 0 (length q.outs)) ++ given (suc k) qs bit

given_count : (k : ℕ) (boxes : List Pins) (bit : ℕ → ℕ → Bool) → length (given k boxes bit) ≡ output_pins boxes
unfolding given
given_count k [] bit = refl
given_count k (q ∷ qs) bit =
    length-append (map (bit k) (range_with_len 0 (length q.outs))) (given (suc k) qs bit)
    ∙ omega (arith, length-map-range_with_len (bit k) 0 (length q.outs), given_count (suc k) qs bit, sum_by-cons (λ (pins : Pins). length pins.outs) q qs)

given_bit : (k : ℕ) (boxes : List Pins) (bit : ℕ → ℕ → Bool) (b p : ℕ) → b < length boxes → p < length (box_at boxes b).outs → bit_of (given k boxes bit) (output_pins (take b boxes) + p) ≡ bit (k + b) p
unfolding given
given_bit k [] bit b p there pin = absurd (omega (arith, there))
given_bit k (q ∷ qs) bit zero p there pin =
    let prefix : output_pins (take 0 (q ∷ qs)) + p ≡ p = omega arith in
    let number : k ≡ k + 0 = omega arith in
    ap (bit_of (given k (q ∷ qs) bit)) prefix
    ∙ get_or_append_left (map (bit k) (range_with_len 0 (length q.outs))) (given (suc k) qs bit) false p (omega (arith, pin, length-map-range_with_len (bit k) 0 (length q.outs)))
    ∙ get_or-map-range_with_len (bit k) 0 (length q.outs) p p false pin (omega arith) ∙ ap (λ n. bit n p) number
given_bit k (q ∷ qs) bit (suc b) p there pin =
    let prefix = map (bit k) (range_with_len 0 (length q.outs)) in
    let place : output_pins (take (suc b) (q ∷ qs)) + p ≡ length prefix + (output_pins (take b qs) + p) =
    omega (arith, sum_by-cons (λ (pins : Pins). length pins.outs) q (take b qs), length-map-range_with_len (bit k) 0 (length q.outs)) in
    let number : suc k + b ≡ k + suc b = omega arith in
    ap (bit_of (given k (q ∷ qs) bit)) place ∙ get_or-append-add prefix (given (suc k) qs bit) (output_pins (take b qs) + p) false
    ∙ given_bit (suc k) qs bit b p (omega (arith, there)) pin ∙ ap (λ n. bit n p) number

-- free bits with the value of a netlist for what its boxes give
pub free_outputs : ValueGoesByBoxes → (net : Netlist) → IsNetlist net → (x : List Bool) (box : ℕ → ℕ → List Bool → Bool) → (z : List Bool) × AreBoxOutputs net z × (value_of net x box ≡ flat net x z)
free_outputs by_boxes net is x box =
    let bit : ℕ → ℕ → Bool = λ b p. box b p (map (bit_of (value_of net x box)) (box_at net.boxes b).ins) in
    let z = given 0 net.boxes bit in
    (z, given_count 0 net.boxes bit, by_boxes net is x box (free_bit net.boxes z) (λ b p there pin. let number : 0 + b ≡ b = omega arith in sym (given_bit 0 net.boxes bit b p there pin ∙ ap (λ n. bit n p) number)))
