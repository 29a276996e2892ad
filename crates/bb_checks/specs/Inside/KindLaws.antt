-- The laws of sharing classes of boxes on which those of reports rest.
use Rattle.std.specs.Prelude.{◌≡◌, ◌≢◌, ℕ, ◌<◌, List, length, map, All, AllPairs}
use Rattle.std.specs.List.{range_with_len, slice_index_or}
use Rattle.bb_bits.specs.Tables.{TableBits}
use Rattle.bb_net.specs.Conditions.{NoTablesMakeEquivalent}
use Rattle.bb_net.specs.Kinds.{AreNumberedInOrder, FitKinds, first_places, representatives, per_box, NoSharedTablesMakeEquivalent}
use Rattle.bb_net.specs.Netlists.{Netlist, Pins}
use Rattle.bb_net.specs.Pairs.{BoxTexts}
use Rattle.bb_net.specs.Values.{FitBoxes}

-- what is shown belongs to the first boxes
abbrev pub AreFirsts : Type 0 → Type 0
AreFirsts A = (kinds : List ℕ) (xs : List A) (none : A) → AreNumberedInOrder kinds → length xs ≡ length kinds → representatives kinds xs ≡ map (λ b. slice_index_or xs b none) (first_places kinds)

pub record KindLaws : Type 0 where
  pub pins : AreFirsts Pins
  pub texts : AreFirsts BoxTexts
  pub there : (kinds : List ℕ) → AreNumberedInOrder kinds → All (λ b. b < length kinds) (first_places kinds)
  -- where each box has a class of its own, nothing is shared
  pub places : (kinds : List ℕ) (boxes : List Pins) → FitKinds kinds boxes → AllPairs ◌≢◌ kinds → kinds ≡ range_with_len 0 (length boxes)
  pub all : (boxes : List Pins) → representatives (range_with_len 0 (length boxes)) boxes ≡ boxes
  pub own : (tables : List TableBits) → per_box (range_with_len 0 (length tables)) tables ≡ tables
  -- tables of sharing classes are tables of boxes
  pub fit : (kinds : List ℕ) (boxes : List Pins) (tables : List TableBits) → FitKinds kinds boxes → FitBoxes tables (representatives kinds boxes) → FitBoxes (per_box kinds tables) boxes
  pub none : (spec imp : Netlist) (kinds : List ℕ) → FitKinds kinds imp.boxes → NoTablesMakeEquivalent spec imp → NoSharedTablesMakeEquivalent spec imp kinds
