-- A pair has the boxes of the implementation, whether a care output is asked for or not.
use Rattle.std.proofs.Common.{◌≡◌, ◌⊎◌, ◌<◌, ◌≤◌, ◌∙◌, ℕ, Bool, List, [], map, length, None, Option, Some, sym, ap, subst, inl, inr, arith}
use Rattle.std.proofs.lemmas.Bool.{cases_lt}
use Rattle.std.proofs.lemmas.List.{get_or-map, get_or_past, length-map}
use Rattle.bb_bits.specs.Tables.{TableBits}
use Rattle.bb_net.specs.Flats.{FlatNet}
use Rattle.bb_net.specs.Kinds.{AreKinds}
use Rattle.bb_net.specs.Netlists.{Pins, box_at}
use Rattle.bb_net.specs.Orders.{moved_pins}
use Rattle.bb_net.specs.Pairs.{NetPair, box_key}
use Rattle.bb_net.specs.Rearrangements.{new_place}
use Rattle.bb_net.specs.Values.{FitBoxes}
use Rattle.bb_match.specs.Pairing.{IsPairOf, IsPlainPairOf}

pub record HasBoxesOf (shared : Bool) (g : FlatNet) (p : NetPair) : Type 0 where
  pub numbers : List ℕ
  pub pins : p.imp.boxes ≡ map (moved_pins (new_place numbers)) g.net.boxes
  pub names : p.boxes ≡ g.boxes
  pub kinds : AreKinds (map (box_key shared) g.boxes) p.kinds

plain_boxes : (shared : Bool) (f g : FlatNet) (p : NetPair) → IsPlainPairOf shared f g p → HasBoxesOf shared g p
plain_boxes shared f g p paired = record { numbers = paired.numbers; pins = paired.rearranged.boxes; names = paired.boxes; kinds = paired.kinds }

pub has_boxes : (care : Option (List ℕ)) (shared : Bool) (f g : FlatNet) (p : NetPair) → IsPairOf care shared f g p → HasBoxesOf shared g p
has_boxes None shared f g p paired = plain_boxes shared f g p paired
has_boxes (Some care) shared f g p paired =
    let own = plain_boxes shared _ g paired.rest paired.paired in
    subst (HasBoxesOf shared g) (sym paired.is) (record { numbers = own.numbers; pins = own.pins; names = own.names; kinds = own.kinds })

-- tables fit the boxes of the pair exactly where they fit those of the implementation

module _ {shared : Bool} {g : FlatNet} {p : NetPair} (has : HasBoxesOf shared g p) where
  abbrev moved : Pins → Pins
  moved = moved_pins (new_place has.numbers)

  abbrev none : Pins
  none = record { ins = []; outs = [] }

  box_same : (b : ℕ) → box_at p.imp.boxes b ≡ moved (box_at g.net.boxes b)
  box_same b = ap (λ all. box_at all b) has.pins ∙ by (cases_lt b (length g.net.boxes))
    where
      by : (b < length g.net.boxes) ⊎ (length g.net.boxes ≤ b) → box_at (map moved g.net.boxes) b ≡ moved (box_at g.net.boxes b)
      by (inl h) = get_or-map moved g.net.boxes b none none h
      by (inr h) = get_or_past (map moved g.net.boxes) b none (omega (arith, h, length-map g.net.boxes moved)) ∙ ap moved (sym (get_or_past g.net.boxes b none h))

  pub box_count : length p.imp.boxes ≡ length g.net.boxes
  box_count = ap length has.pins ∙ length-map g.net.boxes moved

  ins_same : (b : ℕ) → length (box_at p.imp.boxes b).ins ≡ length (box_at g.net.boxes b).ins
  ins_same b = ap (λ (q : Pins). length q.ins) (box_same b) ∙ length-map (box_at g.net.boxes b).ins (new_place has.numbers)

  outs_same : (b : ℕ) → length (box_at p.imp.boxes b).outs ≡ length (box_at g.net.boxes b).outs
  outs_same b = ap (λ (q : Pins). length q.outs) (box_same b) ∙ length-map (box_at g.net.boxes b).outs (new_place has.numbers)

  pub to_pair : (tables : List TableBits) → FitBoxes tables g.net.boxes → FitBoxes tables p.imp.boxes
  to_pair tables fit = record {
    count = fit.count ∙ sym box_count;
    inputs = λ b lt. fit.inputs b (omega (arith, lt, box_count)) ∙ sym (ins_same b);
    outputs = λ b lt. fit.outputs b (omega (arith, lt, box_count)) ∙ sym (outs_same b);
    whole = λ b lt. fit.whole b (omega (arith, lt, box_count));
  }

  pub from_pair : (tables : List TableBits) → FitBoxes tables p.imp.boxes → FitBoxes tables g.net.boxes
  from_pair tables fit = record {
    count = fit.count ∙ box_count;
    inputs = λ b lt. fit.inputs b (omega (arith, lt, box_count)) ∙ ins_same b;
    outputs = λ b lt. fit.outputs b (omega (arith, lt, box_count)) ∙ outs_same b;
    whole = λ b lt. fit.whole b (omega (arith, lt, box_count));
  }
