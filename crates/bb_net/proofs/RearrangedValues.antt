-- In a rearranged netlist a cell has the value that it had.
use Rattle.std.proofs.Common.{◌≡◌, ℕ, ◌<◌, Bool, false, ◌&&◌, ◌||◌, not, if◌then◌else◌, List, [], ◌∷◌, length, map, refl, sym, ap, ◌∙◌, arith}
use Rattle.std.specs.Prelude.{All}
use Rattle.std.specs.List.{range_with_len}
use Rattle.std.proofs.lemmas.List.{get_or-map}
use Rattle.std.proofs.lemmas.List.Elements.{All-head, All-tail, All-nil}
use Rattle.std.proofs.lemmas.List.FromFn.{length-map-range_with_len, get_or-map-range_with_len}
use Rattle.std.proofs.Math.ListN as math
use Rattle.bb_net.specs.declared.cell.Cell.{Cell}
use Rattle.bb_net.specs.declared.cell.Cell.TheVariants.{Const, Input, Not, And, Or, Xor, Mux, BoxOut}
use Rattle.bb_net.specs.Netlists.{Pins, cell_at, box_at, ReadsBefore}
use Rattle.bb_net.specs.Orders.{moved_pins}
use Rattle.bb_net.specs.Rearrangements.{new_place, moved_cell, RearrangedKeepsValues}
use Rattle.bb_net.specs.Values.{bit_of, gate, value_of, xor, IsValue}
use Rattle.bb_net.proofs.ValueLaws.{value_is_unique_lem, value_exists_lem}
use Rattle.bb_net.proofs.Rearranged.{to_there}

module _ (numbers : List ℕ) (inputs : ℕ) (count : length numbers ≡ inputs) (x : List Bool) (box : ℕ → ℕ → List Bool → Bool) (old new : List Pins) (same : (b : ℕ) → (box_at new b).ins ≡ map (new_place numbers) (box_at old b).ins) (v w : ℕ → Bool) (place : ℕ)
    (moved : (k : ℕ) → k < place → v (new_place numbers k) ≡ w k) where
  bits_moved : (xs : List ℕ) → All (λ k. k < place) xs → map v (map (new_place numbers) xs) ≡ map w xs
  bits_moved [] h = refl
  bits_moved (k ∷ xs) h =
      let first = moved k (All-head (λ n. n < place) k xs h) in
      let rest = bits_moved xs (All-tail (λ n. n < place) k xs h) in
      λ i. first i ∷ rest i

  -- a moved gate has the bit that it had where its operands have
  gate_moved : (c : Cell) → ReadsBefore inputs old place c → gate new x box v (moved_cell numbers c) ≡ gate old (map (bit_of x) numbers) box w c
  gate_moved (Const b) h = refl
  gate_moved (Input i) h = sym (get_or-map (bit_of x) numbers i i false (omega (arith, h, count)))
  gate_moved (Not a) h = ap not (moved a h)
  gate_moved (And a b) h = λ i. moved a h.0 i && moved b h.1 i
  gate_moved (Or a b) h = λ i. moved a h.0 i || moved b h.1 i
  gate_moved (Xor a b) h = λ i. xor (moved a h.0 i) (moved b h.1 i)
  gate_moved (Mux c t e) h = λ i. if moved c h.0 i then moved t h.1 i else moved e h.2 i
  gate_moved (BoxOut b p) h = ap (box b p) (ap (map v) (same b) ∙ bits_moved (box_at old b).ins h)

pub keeps_values : RearrangedKeepsValues
keeps_values numbers picks old new kept_old kept_new r x box k lt = sym (at k lt) ∙ ap (λ l. bit_of l k) whole
  where
    v : List Bool
    v = value_of new x box

    f : ℕ → Bool
    f k = bit_of v (new_place numbers k)

    bits : List Bool
    bits = map f (range_with_len 0 (length old.cells))

    at : (k : ℕ) → k < length old.cells → bit_of bits k ≡ f k
    at k h = get_or-map-range_with_len f 0 (length old.cells) k k false h (omega arith)

    ins : (b : ℕ) → (box_at new.boxes b).ins ≡ map (new_place numbers) (box_at old.boxes b).ins
    ins b = ap (λ l. (box_at l b).ins) r.boxes ∙ ap (λ (q : Pins). q.ins) (math.get_or-map (moved_pins (new_place numbers)) old.boxes b (record { ins = []; outs = [] }))

    here : (k : ℕ) → k < length old.cells → f k ≡ gate old.boxes (map (bit_of x) numbers) box (bit_of bits) (cell_at old.cells k)
    here k h =
        let there = to_there old kept_old numbers [] r.numbered r.numbers_there (All-nil (λ j. j < length old.outs)) k h in
        let equation = (value_exists_lem new x box kept_new.ordered).each (new_place numbers k) (omega (arith, there, r.cell_count)) in
        let before : (n : ℕ) → n < k → f n ≡ bit_of bits n = λ n low. sym (at n (omega (arith, low, h))) in
        equation ∙ ap (gate new.boxes x box (bit_of v)) (r.cells k h) ∙ gate_moved numbers old.inputs r.numbered x box old.boxes new.boxes ins (bit_of v) (bit_of bits) k before (cell_at old.cells k) (kept_old.ordered k h)

    is : IsValue old (map (bit_of x) numbers) box bits
    is = record { whole = length-map-range_with_len f 0 (length old.cells); each = λ k h. at k h ∙ here k h }

    whole : bits ≡ value_of old (map (bit_of x) numbers) box
    whole = value_is_unique_lem old (map (bit_of x) numbers) box bits kept_old.ordered is
