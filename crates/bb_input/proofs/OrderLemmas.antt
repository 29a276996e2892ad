-- one more box after the first ones
use Rattle.std.proofs.Common.{◌≡◌, ◌<◌, ◌≤◌, ℕ, zero, suc, ◌+◌, List, [], ◌∷◌, ◌++◌, length, take, sym, ap, ◌∙◌, arith, append_assoc, append-nil}
use Rattle.std.specs.List.{range_with_len}
use Rattle.std.proofs.lemmas.List.Sums.{sum_by-cons}
use Rattle.bb_lemmas.proofs.Orders.{plus_one}
use Rattle.bb_net.specs.Netlists.{Pins, box_at}
use Rattle.bb_net.specs.Pairs.{pin_count}
use Rattle.bb_input.specs.InputFunctions.{in_places}
use Rattle.bb_input.specs.Inside.Order.{in_variables}

-- the pins of a box
abbrev pub pins_of : Pins → ℕ
pins_of box = length box.ins + length box.outs

count_next : (boxes : List Pins) (i : ℕ) → i < length boxes → pin_count (take (suc i) boxes) ≡ pin_count (take i boxes) + pins_of (box_at boxes i)
count_next [] i l = absurd (omega (arith, l))
count_next (box ∷ boxes) zero l = omega (arith, sum_by-cons pins_of box [])
count_next (box ∷ boxes) (suc i) l =
    let rest = count_next boxes i (omega (arith, l)) in
    omega (arith, rest, sum_by-cons pins_of box (take (suc i) boxes), sum_by-cons pins_of box (take i boxes))

pub count_more : (boxes : List Pins) (i : ℕ) → i < length boxes → pin_count (take (i + 1) boxes) ≡ pin_count (take i boxes) + pins_of (box_at boxes i)
count_more boxes i l = ap (λ k. pin_count (take k boxes)) (plus_one i) ∙ count_next boxes i l

pub count_within : (boxes : List Pins) (i : ℕ) → pin_count (take i boxes) ≤ pin_count boxes
count_within [] zero = omega arith
count_within [] (suc i) = omega arith
count_within (box ∷ boxes) zero = omega arith
count_within (box ∷ boxes) (suc i) =
    let rest = count_within boxes i in omega (arith, rest, sum_by-cons pins_of box (take i boxes), sum_by-cons pins_of box boxes)

pub fits_more : (boxes : List Pins) (i : ℕ) → i < length boxes → pin_count (take i boxes) + pins_of (box_at boxes i) ≤ pin_count boxes
fits_more boxes i l = let more = count_more boxes i l in let within = count_within boxes (i + 1) in omega (arith, more, within)

variables_next : (boxes : List Pins) (first i : ℕ) → i < length boxes → in_variables first (take (suc i) boxes) ≡ in_variables first (take i boxes) ++ range_with_len (first + pin_count (take i boxes)) (length (box_at boxes i).ins)
variables_next [] first i l = absurd (omega (arith, l))
variables_next (box ∷ boxes) first zero l = append-nil (range_with_len first (length box.ins)) ∙ ap (λ k. range_with_len k (length box.ins)) (let e : first ≡ first + 0 = omega arith in e)
variables_next (box ∷ boxes) first (suc i) l =
    let then = first + pins_of box in
    ap (λ vs. range_with_len first (length box.ins) ++ vs) (variables_next boxes then i (omega (arith, l)))
    ∙ (sym (append_assoc (range_with_len first (length box.ins)) (in_variables then (take i boxes)) (range_with_len (then + pin_count (take i boxes)) (length (box_at boxes i).ins)))
    ∙ ap (λ k. (range_with_len first (length box.ins) ++ in_variables then (take i boxes)) ++ range_with_len k (length (box_at boxes i).ins))
    (let e : then + pin_count (take i boxes) ≡ first + pin_count (box ∷ take i boxes) = omega (arith, sum_by-cons pins_of box (take i boxes)) in e))

pub variables_more : (boxes : List Pins) (i : ℕ) → i < length boxes → in_variables 0 (take (i + 1) boxes) ≡ in_variables 0 (take i boxes) ++ range_with_len (pin_count (take i boxes)) (length (box_at boxes i).ins)
variables_more boxes i l =
    ap (λ k. in_variables 0 (take k boxes)) (plus_one i)
    ∙ (variables_next boxes 0 i l ∙ ap (λ k. in_variables 0 (take i boxes) ++ range_with_len k (length (box_at boxes i).ins)) (let e : 0 + pin_count (take i boxes) ≡ pin_count (take i boxes) = omega arith in e))

places_next : (boxes : List Pins) (i : ℕ) → i < length boxes → in_places (take (suc i) boxes) ≡ in_places (take i boxes) ++ (box_at boxes i).ins
places_next [] i l = absurd (omega (arith, l))
places_next (box ∷ boxes) zero l = append-nil box.ins
places_next (box ∷ boxes) (suc i) l =
    ap (λ ps. box.ins ++ ps) (places_next boxes i (omega (arith, l))) ∙ sym (append_assoc box.ins (in_places (take i boxes)) (box_at boxes i).ins)

pub places_more : (boxes : List Pins) (i : ℕ) → i < length boxes → in_places (take (i + 1) boxes) ≡ in_places (take i boxes) ++ (box_at boxes i).ins
places_more boxes i l = ap (λ k. in_places (take k boxes)) (plus_one i) ∙ places_next boxes i l

pub ruleset variable_lists = (count_more, fits_more, variables_more)
