-- The netlist of the implementation from which a pair is made may be filled with tables of the kinds of the pair: each register has a
-- clock, since the two netlists fit, and tables that fit the first boxes of all kinds are spread to tables that fit its boxes, which have as
-- many pins in the pair.
use Rattle.std.proofs.Common.{◌≡◌, ◌⊎◌, ◌<◌, ◌≤◌, ◌∙◌, ℕ, Bool, List, [], map, length, None, Option, Some, sym, ap, subst, inl, inr, arith}
use Rattle.std.proofs.lemmas.Bool.{cases_lt}
use Rattle.std.proofs.lemmas.List.{get_or-map, get_or_past, length-map}
use Rattle.bb_equiv.specs.DesignEquivalence.{IsPairFor}
use Rattle.bb_bits.specs.Tables.{TableBits}
use Rattle.bb_design.specs.Hierarchy.{Design}
use Rattle.bb_match.specs.Pairing.{IsPairOf}
use Rattle.bb_match.specs.Refusals.{ImpClock}
use Rattle.bb_net.specs.Flats.{FlatNet, HaveClocks}
use Rattle.bb_net.specs.Kinds.{FitKinds, representatives, per_box}
use Rattle.bb_net.specs.Netlists.{Pins, box_at}
use Rattle.bb_net.specs.Orders.{moved_pins}
use Rattle.bb_net.specs.Pairs.{NetPair}
use Rattle.bb_net.specs.Rearrangements.{new_place}
use Rattle.bb_net.specs.Values.{FitBoxes}
use Rattle.bb_verdict.specs.Inside.Made.{CanBeFilled}

abbrev pub TablesAreSpread : Type 0
TablesAreSpread = (kinds : List ℕ) (boxes : List Pins) (tables : List TableBits) → FitKinds kinds boxes → FitBoxes tables (representatives kinds boxes) → FitBoxes (per_box kinds tables) boxes

-- the boxes of a pair are those of the netlist, with their pins moved
pub record HasBoxesOf (f : FlatNet) (p : NetPair) : Type 0 where
  pub to : ℕ → ℕ
  pub pins : p.imp.boxes ≡ map (moved_pins to) f.net.boxes

has_boxes : (care : Option (List ℕ)) (shared : Bool) (g f : FlatNet) (p : NetPair) → IsPairOf care shared g f p → HasBoxesOf f p
has_boxes None shared g f p paired = record { to = new_place paired.numbers; pins = paired.rearranged.boxes }
has_boxes (Some care) shared g f p paired = subst (HasBoxesOf f) (sym paired.is) (record { to = new_place paired.paired.numbers; pins = paired.paired.rearranged.boxes })

have_clocks : (care : Option (List ℕ)) (shared : Bool) (g f : FlatNet) (p : NetPair) → IsPairOf care shared g f p → HaveClocks f
have_clocks None shared g f p paired = paired.fit ImpClock
have_clocks (Some care) shared g f p paired = paired.paired.fit ImpClock

-- tables that fit boxes with moved pins fit the boxes
module _ (to : ℕ → ℕ) (boxes : List Pins) where
  abbrev none : Pins
  none = record { ins = []; outs = [] }

  box_is : (b : ℕ) → box_at (map (moved_pins to) boxes) b ≡ moved_pins to (box_at boxes b)
  box_is b = by (cases_lt b (length boxes))
    where
      by : (b < length boxes) ⊎ (length boxes ≤ b) → box_at (map (moved_pins to) boxes) b ≡ moved_pins to (box_at boxes b)
      by (inl h) = get_or-map (moved_pins to) boxes b none none h
      by (inr h) = get_or_past (map (moved_pins to) boxes) b none (omega (arith, h, length-map boxes (moved_pins to))) ∙ ap (moved_pins to) (sym (get_or_past boxes b none h))

  box_count : length (map (moved_pins to) boxes) ≡ length boxes
  box_count = length-map boxes (moved_pins to)

  moved_back : (tables : List TableBits) → FitBoxes tables (map (moved_pins to) boxes) → FitBoxes tables boxes
  moved_back tables fit = record {
    count = fit.count ∙ box_count;
    inputs = λ b lt. fit.inputs b (omega (arith, lt, box_count)) ∙ ap (λ (q : Pins). length q.ins) (box_is b) ∙ length-map (box_at boxes b).ins to;
    outputs = λ b lt. fit.outputs b (omega (arith, lt, box_count)) ∙ ap (λ (q : Pins). length q.outs) (box_is b) ∙ length-map (box_at boxes b).outs to;
    whole = λ b lt. fit.whole b (omega (arith, lt, box_count));
  }

pub kept_nets : TablesAreSpread → {care : Option (List ℕ)} {shared : Bool} (s i : Design) (p : NetPair) (pair : IsPairFor care shared s i p) → CanBeFilled p pair.imp_net
kept_nets per_box {care} {shared} s i p pair =
    let has = has_boxes care shared pair.spec_net pair.imp_net p pair.paired in
    record {
      clocks = have_clocks care shared pair.spec_net pair.imp_net p pair.paired;
      tables = λ tables fit.
          moved_back has.to pair.imp_net.net.boxes _ (subst (FitBoxes _) has.pins (per_box p.kinds p.imp.boxes tables pair.kept.beside.kinds fit));
    }
