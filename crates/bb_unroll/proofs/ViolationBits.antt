-- The output of a violation says whether an event is one.
use Rattle.std.proofs.Common.{◌≡◌, ℕ, suc, ◌+◌, ◌-◌, ◌<◌, Bool, false, not, ◌&&◌, List, [], ◌∷◌, ◌++◌, length, Some, None, refl, sym, ap, ap₂, ◌∙◌, subst, arith, length-append, append-nil}
use Rattle.std.proofs.lemmas.List.{get_or_append_left, get_or-append-add}
use Rattle.bb_net.specs.declared.cell.Cell.{Cell}
use Rattle.bb_net.specs.declared.cell.Cell.TheVariants.{Const, Not, And}
use Rattle.bb_net.specs.Flats.{FlatNet}
use Rattle.bb_net.specs.Netlists.{IsOrdered, cell_at}
use Rattle.bb_net.specs.Values.{bit_of, flat, free_bit, gate}
use Rattle.bb_unroll.specs.Events.{CanBeUnrolled, UnrolledHaveBits, ViolationsAreSeen, inputs_after}
use Rattle.bb_unroll.specs.Unrolled.{next_place, present_place, unrolled, unrolled_cells}
use Rattle.bb_unroll.proofs.UnrolledBits.{ValuesAreOne, ValuesExist, solved_bits}
use Rattle.bb_unroll.proofs.UnrolledCells.{cells_long}
use Rattle.bb_unroll.proofs.UnrolledOrder.{unrolled_ordered}
use Rattle.bb_unroll.proofs.UnrolledPlaces.{next_there, present_there}

module _ (exist : ValuesExist) (once : ValuesAreOne) (have : UnrolledHaveBits) (f : FlatNet) (can : CanBeUnrolled f) (k : ℕ) (there : k < length f.net.cells) (x : List Bool) where
  -- the cells of a violation after those of the unrolled specification
  abbrev two : List Cell
  two = Not (next_place f k) ∷ And (present_place f k) (length (unrolled_cells f)) ∷ []

  module _ (more : List Cell) (outs : List ℕ) (kept : IsOrdered (record (unrolled f) { cells = (unrolled_cells f ++ two) ++ more; outs = outs })) where
    abbrev w : ℕ → Bool
    w = bit_of (flat (record (unrolled f) { cells = (unrolled_cells f ++ two) ++ more; outs = outs }) x [])

    long : length ((unrolled_cells f ++ two) ++ more) ≡ length (unrolled_cells f) + 2 + length more
    long = omega (arith, length-append (unrolled_cells f ++ two) more, length-append (unrolled_cells f) two)

    here : (place : ℕ) (c : Cell) → place < length (unrolled_cells f) + 2 + length more → cell_at ((unrolled_cells f ++ two) ++ more) place ≡ c → w place ≡ gate [] x (free_bit [] []) w c
    here place c lt is = (exist (record (unrolled f) { cells = (unrolled_cells f ++ two) ++ more; outs = outs }) x (free_bit [] []) kept).each place (omega (arith, lt, long)) ∙ ap (gate [] x (free_bit [] []) w) is

    early : (place : ℕ) → place < length (unrolled_cells f) + 2 → cell_at ((unrolled_cells f ++ two) ++ more) place ≡ cell_at (unrolled_cells f ++ two) place
    early place lt = get_or_append_left (unrolled_cells f ++ two) more (Const false) place (omega (arith, lt, length-append (unrolled_cells f) two))

    -- the cells before have their bits
    old_bit : (place : ℕ) → place < length (unrolled_cells f) → w place ≡ bit_of (flat (unrolled f) x []) place
    old_bit =
        solved_bits once (unrolled f) (unrolled_ordered f can) x (free_bit [] []) w
        (λ place lt. here place (cell_at (unrolled_cells f) place) (omega (arith, lt)) (early place (omega (arith, lt)) ∙ get_or_append_left (unrolled_cells f) two (Const false) place lt))

    frame_bit : (j : ℕ) → j < length f.net.cells → w (present_place f j) ≡ bit_of (flat f.net x []) j
    frame_bit j lt = old_bit (present_place f j) (omega (arith, present_there f can.is_flat j lt, cells_long f)) ∙ (have f can x j lt).0

    not_bit : w (length (unrolled_cells f)) ≡ not (bit_of (flat f.net (inputs_after f x) []) k)
    not_bit =
        let at : length (unrolled_cells f) ≡ length (unrolled_cells f) + 0 = omega arith in
        here (length (unrolled_cells f)) (Not (next_place f k)) (omega arith)
        (early (length (unrolled_cells f)) (omega arith) ∙ ap (cell_at (unrolled_cells f ++ two)) at ∙ get_or-append-add (unrolled_cells f) two 0 (Const false))
        ∙ ap not (old_bit (next_place f k) (next_there f can.is_flat k there) ∙ (have f can x k there).1)

    violation_bit : w (suc (length (unrolled_cells f))) ≡ (bit_of (flat f.net x []) k && not (bit_of (flat f.net (inputs_after f x) []) k))
    violation_bit =
        let at : suc (length (unrolled_cells f)) ≡ length (unrolled_cells f) + 1 = omega arith in
        here (suc (length (unrolled_cells f))) (And (present_place f k) (length (unrolled_cells f))) (omega arith)
        (early (suc (length (unrolled_cells f))) (omega arith) ∙ ap (cell_at (unrolled_cells f ++ two)) at ∙ get_or-append-add (unrolled_cells f) two 1 (Const false))
        ∙ ap₂ ◌&&◌ (frame_bit k there) not_bit

  -- and with a care cell
  module _ (c : ℕ) (cares : c < length f.net.cells) where
    abbrev one : List Cell
    one = And (present_place f c) (length (unrolled_cells f ++ two) - 1) ∷ []

    abbrev out : List ℕ
    out = length (unrolled_cells f ++ two) ∷ []

    care_bit : (kept : IsOrdered (record (unrolled f) { cells = (unrolled_cells f ++ two) ++ one; outs = out })) → bit_of (flat (record (unrolled f) { cells = (unrolled_cells f ++ two) ++ one; outs = out }) x []) (length (unrolled_cells f ++ two))
        ≡ (bit_of (flat f.net x []) c && (bit_of (flat f.net x []) k && not (bit_of (flat f.net (inputs_after f x) []) k)))
    care_bit kept =
        let long = length-append (unrolled_cells f) two in
        let at : length (unrolled_cells f ++ two) ≡ length (unrolled_cells f ++ two) + 0 = omega arith in
        let last : length (unrolled_cells f ++ two) - 1 ≡ suc (length (unrolled_cells f)) = omega (arith, long) in
        here one out kept (length (unrolled_cells f ++ two)) (And (present_place f c) (length (unrolled_cells f ++ two) - 1)) (omega (arith, long))
        (ap (cell_at ((unrolled_cells f ++ two) ++ one)) at ∙ get_or-append-add (unrolled_cells f ++ two) one 0 (Const false))
        ∙ ap₂ ◌&&◌ (frame_bit one out kept c cares) (ap (bit_of (flat (record (unrolled f) { cells = (unrolled_cells f ++ two) ++ one; outs = out }) x [])) last ∙ violation_bit one out kept)

pub violations_are_seen : ValuesExist → ValuesAreOne → UnrolledHaveBits → ViolationsAreSeen
violations_are_seen exist once have f k None can kept there cares x =
    let cells = unrolled_cells f ++ two exist once have f can k there x in
    let outs = suc (length (unrolled_cells f)) ∷ [] in
    ap (λ (l : List Cell). bit_of (flat (record (unrolled f) { cells = l; outs = outs }) x []) (suc (length (unrolled_cells f)))) (sym (append-nil cells))
    ∙ violation_bit exist once have f can k there x [] outs (subst (λ (l : List Cell). IsOrdered (record (unrolled f) { cells = l; outs = outs })) (sym (append-nil cells)) kept.ordered)
violations_are_seen exist once have f k (Some c) can kept there cares x = care_bit exist once have f can k there x c (cares c refl) kept.ordered
