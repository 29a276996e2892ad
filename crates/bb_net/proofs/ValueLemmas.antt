-- Lemmas on the value of cells.
use Rattle.std.proofs.Common.{◌≡◌, ℕ, ◌+◌, ◌<◌, ◌≤◌, Bool, false, not, List, [], ◌∷◌, length, map, get_or, set, take, drop, ◌-◌, refl, sym, ◌∙◌, ap, subst, inl, inr, arith, get_or-set_other}
use Rattle.std.specs.Prelude.{All}
use Rattle.std.proofs.lemmas.Bool.{cases_eq}
use Rattle.std.proofs.lemmas.List.{get_or-take, get_or-drop}
use Rattle.std.proofs.lemmas.List.Sums.{sum_by_more}
use Rattle.std.proofs.lemmas.List.Elements.{All-head, All-tail}
use Rattle.bb_net.specs.declared.cell.Cell.{Cell}
use Rattle.bb_net.specs.declared.cell.Cell.TheVariants.{Const, Input, Not, And, Or, Xor, Mux, BoxOut}
use Rattle.bb_net.specs.Netlists.{Pins, cell_at, box_at, IsPinAt, ReadsBefore}
use Rattle.bb_net.specs.Values.{bit_of, gate, output_pins}
use Rattle.bb_net.proofs.Steps.{IsLocal, IsFilled, IsFilled-more}

pub map_same : (v w : ℕ → Bool) (place : ℕ) → ((k : ℕ) → k < place → v k ≡ w k) → (xs : List ℕ) → All (λ k. k < place) xs → map v xs ≡ map w xs
map_same v w place same [] h = refl
map_same v w place same (x ∷ xs) h =
    let first = same x (All-head (λ k. k < place) x xs h) in
    let rest = map_same v w place same xs (All-tail (λ k. k < place) x xs h) in
    cc

-- a cell's bit depends on the bits of what it reads alone
pub gate_same : (inputs : ℕ) (boxes : List Pins) (x : List Bool) (box : ℕ → ℕ → List Bool → Bool) (v w : ℕ → Bool) (place : ℕ) (c : Cell) → ReadsBefore inputs boxes place c → ((k : ℕ) → k < place → v k ≡ w k) → gate boxes x box v c ≡ gate boxes x box w c
gate_same inputs boxes x box v w place (Const b) h same = refl
gate_same inputs boxes x box v w place (Input i) h same = refl
gate_same inputs boxes x box v w place (Not a) h same = ap not (same a h)
gate_same inputs boxes x box v w place (And a b) h same = let p = same a h.0 in let q = same b h.1 in cc
gate_same inputs boxes x box v w place (Or a b) h same = let p = same a h.0 in let q = same b h.1 in cc
gate_same inputs boxes x box v w place (Xor a b) h same = let p = same a h.0 in let q = same b h.1 in cc
gate_same inputs boxes x box v w place (Mux a b c) h same = let p = same a h.0 in let q = same b h.1 in let r = same c h.2 in cc
gate_same inputs boxes x box v w place (BoxOut b p) h same = ap (box b p) (map_same v w place same (box_at boxes b).ins h)

-- the bit of the cell at a place
abbrev pub value_step : List Pins → List Bool → (ℕ → ℕ → List Bool → Bool) → List Cell → ℕ → (ℕ → Bool) → Bool
value_step boxes x box cells k v = gate boxes x box v (cell_at cells k)

pub value_step-local : (inputs : ℕ) (boxes : List Pins) (x : List Bool) (box : ℕ → ℕ → List Bool → Bool) (cells : List Cell) → ((k : ℕ) → k < length cells → ReadsBefore inputs boxes k (cell_at cells k)) → IsLocal (value_step boxes x box cells) (length cells)
value_step-local inputs boxes x box cells reads k v w h same = gate_same inputs boxes x box v w k (cell_at cells k) (reads k h) same

-- the same where each box output has the bit that was at its place
abbrev pub kept_step : List Cell → List Bool → List Bool → ℕ → (ℕ → Bool) → Bool
kept_step cells x old k v = gate [] x (λ b p ins. bit_of old k) v (cell_at cells k)

-- the first cells are written, and after them is what was there
pub record IsWritten (cells : List Cell) (x old out : List Bool) (n : ℕ) : Type 0 where
  pub each : IsFilled (kept_step cells x old) (bit_of out) n
  pub rest : (k : ℕ) → n ≤ k → bit_of out k ≡ bit_of old k

-- one cell more is written
pub IsWritten-more : (cells : List Cell) (x old out : List Bool) (i inputs : ℕ) (bit : Bool) → i < length out → length out ≡ length cells → ((k : ℕ) → k < length cells → ReadsBefore inputs [] k (cell_at cells k)) → bit ≡ gate [] x (λ b p ins. bit_of out i) (bit_of out) (cell_at cells i) → IsWritten cells x old out i → IsWritten cells x old (set out i bit) (i + 1)
IsWritten-more cells x old out i inputs bit lt len reads is w =
    let local : IsLocal (kept_step cells x old) (length cells) = λ k v u h same. gate_same inputs [] x (λ b p ins. bit_of old k) v u k (cell_at cells k) (reads k h) same in
    let is' = is ∙ ap (λ here. gate [] x (λ b p ins. here) (bit_of out) (cell_at cells i)) (w.rest i (omega arith)) in
    record {
      each = IsFilled-more false (kept_step cells x old) out i (length cells) bit local (omega arith) lt is' w.each;
      rest = λ k h. get_or-set_other out i k bit false (omega arith) ∙ w.rest k (omega arith);
    }

-- the place of an output pin, where a list is that of the box's pins
pub pin_of : (boxes : List Pins) (i : ℕ) (outs : List ℕ) (p : ℕ) → outs ≡ (box_at boxes i).outs → p < length outs → IsPinAt boxes i p (get_or outs p 0)
pin_of boxes i outs p e h = (subst (λ o. p < length o) e h, ap (λ o. get_or o p 0) (sym e))

-- the output pins of the first boxes have their bits
pub record ArePlaced (boxes : List Pins) (z out : List Bool) (start n : ℕ) : Type 0 where
  pub start_is : start ≡ output_pins (take n boxes)
  pub placed : (b p place : ℕ) → b < n → IsPinAt boxes b p place → bit_of out place ≡ bit_of z (output_pins (take b boxes) + p)

pub ArePlaced-more : (boxes : List Pins) (outs : List ℕ) (z old new : List Bool) (start i : ℕ)
    → i < length boxes → outs ≡ (box_at boxes i).outs
    → ((b p c q place : ℕ) → IsPinAt boxes b p place → IsPinAt boxes c q place → (b ≡ c) × (p ≡ q))
    → ((p : ℕ) → p < length outs → bit_of new (get_or outs p 0) ≡ bit_of (take (start + length outs - start) (drop start z)) p)
    → ((place : ℕ) → ((p : ℕ) → p < length outs → get_or outs p 0 ≡ place → ⊥) → bit_of new place ≡ bit_of old place)
    → ArePlaced boxes z old start i → ArePlaced boxes z new (start + length outs) (i + 1)
ArePlaced-more boxes outs z old new start i lt e apart placed others w =
    let len : length outs ≡ length (box_at boxes i).outs = ap length e in
    let more = sum_by_more (λ pins. length pins.outs) boxes i (record { ins = []; outs = [] }) lt in
    record {
      start_is = omega (arith, more, len, w.start_is);
      placed = λ b p place h pin. elim (cases_eq b i) [
        | inl same ↦
            let pin' = subst (λ k. IsPinAt boxes k p place) same pin in
            let below : p < length outs = omega (arith, pin'.0, len) in
            let at : get_or outs p 0 ≡ place = ap (λ o. get_or o p 0) e ∙ pin'.1 in
            let inner = get_or-take (start + length outs - start) (drop start z) p false (omega arith) in
            let whole = get_or-drop start z p false in
            ap (bit_of new) (sym at) ∙ placed p below ∙ inner ∙ whole
            ∙ ap (λ k. bit_of z (k + p)) (w.start_is ∙ ap (λ k. output_pins (take k boxes)) (sym same))
        | inr ne ↦
            others place (λ q below at. ne (apart b p i q place pin (subst (λ k. IsPinAt boxes i q k) at (pin_of boxes i outs q e below))).0)
            ∙ w.placed b p place (omega arith) pin
      ];
    }
