-- A netlist whose inputs are put in the order in which they were is the same but for its outputs.
use Rattle.std.proofs.Common.{◌≡◌, ℕ, zero, suc, ◌+◌, ◌<◌, false, List, [], ◌∷◌, ◌++◌, map, refl, sym, ap, ap₂, ◌∙◌, subst, arith, inl, inr}
use Rattle.std.specs.Prelude.{All, slice_index}
use Rattle.std.specs.List.{range_with_len}
use Rattle.std.proofs.lemmas.Bool.{cases_lt}
use Rattle.std.proofs.lemmas.List.{append_assoc, ext_get_or, get_or_past}
use Rattle.std.proofs.lemmas.List.FromFn.{get_or-range_with_len, length-range_with_len}
use Rattle.bb_lemmas.proofs.Ranges.{range_last}
use Rattle.bb_net.specs.declared.cell.Cell.{Cell}
use Rattle.bb_net.specs.declared.cell.Cell.TheVariants.{Const, Input, Not, And, Or, Xor, Mux, BoxOut}
use Rattle.bb_net.specs.Netlists.{Netlist, Pins, cell_at, with_out}
use Rattle.bb_net.specs.Orders.{moved_pins}
use Rattle.bb_net.specs.Rearrangements.{new_input, new_place, moved_cell, IsRearranged}

pub own_below : (n : ℕ) (numbers : List ℕ) → numbers ≡ range_with_len 0 n → All (λ k. k < n) numbers
own_below n numbers is =
    subst (All (λ k. k < n)) (sym is) (λ k d lt. let low : k < n = omega (arith, lt, length-range_with_len 0 n) in omega (arith, low, get_or-range_with_len 0 n k d low))

own_input : (n i : ℕ) → new_input (range_with_len 0 n) i ≡ i
own_input n i = elim (cases_lt i n) [
  | inl low ↦ get_or-range_with_len 0 n i i low ∙ omega arith
  | inr past ↦ get_or_past (range_with_len 0 n) i i (omega (arith, past, length-range_with_len 0 n))
]

own_place : (n k : ℕ) → new_place (range_with_len 0 n) k ≡ k
own_place n zero = refl
own_place n (suc zero) = refl
own_place n (suc (suc i)) = omega (arith, own_input n i)

own_cell : (n : ℕ) (c : Cell) → moved_cell (range_with_len 0 n) c ≡ c
own_cell n (Const b) = refl
own_cell n (Input i) = ap Input (own_input n i)
own_cell n (Not a) = ap Not (own_place n a)
own_cell n (And a b) = ap₂ And (own_place n a) (own_place n b)
own_cell n (Or a b) = ap₂ Or (own_place n a) (own_place n b)
own_cell n (Xor a b) = ap₂ Xor (own_place n a) (own_place n b)
own_cell n (Mux c t e) = ap (λ x. Mux x (new_place (range_with_len 0 n) t) (new_place (range_with_len 0 n) e)) (own_place n c) ∙ ap₂ (Mux c) (own_place n t) (own_place n e)
own_cell n (BoxOut b p) = refl

own_places : (n : ℕ) (places : List ℕ) → map (new_place (range_with_len 0 n)) places ≡ places
own_places n [] = refl
own_places n (k ∷ places) = ap₂ ◌∷◌ (own_place n k) (own_places n places)

own_boxes : (n : ℕ) (boxes : List Pins) → map (moved_pins (new_place (range_with_len 0 n))) boxes ≡ boxes
own_boxes n [] = refl
own_boxes n (b ∷ boxes) = ap₂ (λ (pins : Pins) (l : List Pins). pins ∷ l) (ap₂ (λ (ins outs : List ℕ). record { ins = ins; outs = outs }) (own_places n b.ins) (own_places n b.outs)) (own_boxes n boxes)

own_picks : (n : ℕ) (outs picks : List ℕ) → map (λ j. new_place (range_with_len 0 n) (slice_index outs j)) picks ≡ map (slice_index outs) picks
own_picks n outs [] = refl
own_picks n outs (j ∷ picks) = ap₂ ◌∷◌ (own_place n (slice_index outs j)) (own_picks n outs picks)

-- it is the same but for its outputs
pub own_net : (net new : Netlist) (n : ℕ) (numbers picks : List ℕ) → numbers ≡ range_with_len 0 n → IsRearranged numbers picks net new → new ≡ record net { outs = map (slice_index net.outs) picks }
own_net net new n numbers picks is so = rw (so.inputs, cells, boxes, outs) refl
  where
    same : IsRearranged (range_with_len 0 n) picks net new
    same = subst (λ l. IsRearranged l picks net new) is so

    cells : new.cells ≡ net.cells
    cells = ext_get_or (Const false) new.cells net.cells so.cell_count (λ k lt. ap (cell_at new.cells) (sym (own_place n k)) ∙ same.cells k (omega (arith, lt, so.cell_count)) ∙ own_cell n (cell_at net.cells k))

    boxes : new.boxes ≡ net.boxes
    boxes = same.boxes ∙ own_boxes n net.boxes

    outs : new.outs ≡ map (slice_index net.outs) picks
    outs = same.outs ∙ own_picks n net.outs picks

-- one more output
pub outs_next : (net now new : Netlist) (a n : ℕ) → now ≡ record net { outs = net.outs ++ range_with_len a n } → new ≡ with_out now (a + n) → new ≡ record net { outs = net.outs ++ range_with_len a (n + 1) }
outs_next net now new a n is added =
    added ∙ ap (λ m. with_out m (a + n)) is ∙ ap (λ (l : List ℕ). record net { outs = l }) (append_assoc net.outs (range_with_len a n) ((a + n) ∷ []) ∙ ap (λ l. net.outs ++ l) (sym (range_last a n)))
