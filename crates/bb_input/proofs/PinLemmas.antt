-- the cells at all pins, box after box
use Rattle.std.proofs.Common.{◌≡◌, ◌<◌, ℕ, zero, suc, ◌+◌, get_or, List, [], ◌∷◌, ◌++◌, length, take, refl, sym, ap, ◌∙◌, subst, arith, append_assoc, append-nil, length-append}
use Rattle.std.specs.Prelude.{All}
use Rattle.std.proofs.lemmas.List.{get_or_default}
use Rattle.std.proofs.lemmas.List.Elements.{All-append}
use Rattle.std.proofs.lemmas.List.Sums.{sum_by-cons}
use Rattle.bb_net.specs.Netlists.{Netlist, Pins, IsNetlist, box_at}
use Rattle.bb_net.specs.Pairs.{pin_count}
use Rattle.bb_input.specs.InputFunctions.{pin_places}
use Rattle.bb_input.proofs.OrderLemmas.{pins_of}

pins_next : (boxes : List Pins) (i : ℕ) → i < length boxes → pin_places (take (suc i) boxes) ≡ pin_places (take i boxes) ++ ((box_at boxes i).ins ++ (box_at boxes i).outs)
pins_next [] i l = absurd (omega (arith, l))
pins_next (box ∷ boxes) zero l = append-nil (box.ins ++ box.outs)
pins_next (box ∷ boxes) (suc i) l =
    ap (λ ps. (box.ins ++ box.outs) ++ ps) (pins_next boxes i (omega (arith, l)))
    ∙ sym (append_assoc (box.ins ++ box.outs) (pin_places (take i boxes)) ((box_at boxes i).ins ++ (box_at boxes i).outs))

-- those of one more box
pub pins_more : (boxes : List Pins) (i : ℕ) → i < length boxes → pin_places (take (i + 1) boxes) ≡ (pin_places (take i boxes) ++ (box_at boxes i).ins) ++ (box_at boxes i).outs
pins_more boxes i l =
    ap (λ k. pin_places (take k boxes)) (let e : i + 1 ≡ suc i = omega arith in e)
    ∙ (pins_next boxes i l ∙ sym (append_assoc (pin_places (take i boxes)) (box_at boxes i).ins (box_at boxes i).outs))

pub pins_counted : (boxes : List Pins) → length (pin_places boxes) ≡ pin_count boxes
pins_counted [] = refl
pins_counted (box ∷ boxes) =
    let rest = pins_counted boxes in
    omega (arith, rest, length-append (box.ins ++ box.outs) (pin_places boxes), length-append box.ins box.outs, sum_by-cons pins_of box boxes)

pins_within : (boxes : List Pins) (n : ℕ) → ((b : ℕ) → All (λ pin. pin < n) (box_at boxes b).ins) → ((b : ℕ) → All (λ pin. pin < n) (box_at boxes b).outs) → All (λ place. place < n) (pin_places boxes)
pins_within [] n ins outs = λ k d l. absurd (omega (arith, l))
pins_within (box ∷ boxes) n ins outs =
    All-append (λ place. place < n) (box.ins ++ box.outs) (pin_places boxes) (All-append (λ place. place < n) box.ins box.outs (ins 0) (outs 0))
    (pins_within boxes n (λ b. ins (suc b)) (λ b. outs (suc b)))

-- they are cells of the netlist
pub pins_there : (net : Netlist) → IsNetlist net → All (λ place. place < length net.cells) (pin_places net.boxes)
pins_there net kept =
    pins_within net.boxes (length net.cells) kept.pins_there (λ b k d l.
    (let own = (box_at net.boxes b).outs in subst (λ place. place < length net.cells) (get_or_default own k 0 d l) (kept.driven b k (get_or own k 0) (l, refl)).0))
