-- the function of a stage, at each point
use Rattle.std.proofs.Common.{◌≡◌, ◌↔◌, ◌<◌, ℕ, ◌+◌, Bool, false, List, [], ◌++◌, length, take, drop, refl, sym, ap, ◌∙◌, subst, arith, length-take, length-drop, take-append-drop}
use Rattle.std.proofs.lemmas.List.Sums.{sum_by-append}
use Rattle.bb_lemmas.proofs.Bits.{not_true}
use Rattle.bb_bits.specs.Truth.{Truth, truth_at}
use Rattle.bb_bits.specs.Laws.TruthLaws.{QuantifierLaws, TableLaws}
use Rattle.bb_net.specs.Conditions.{ChoicesSuit, InputsHaveOutputs, SomeChoicesSuit}
use Rattle.bb_net.specs.Netlists.{Netlist, Pins}
use Rattle.bb_net.specs.Pairs.{pin_count}
use Rattle.bb_sym.specs.Laws.{FunctionLaws}
use Rattle.bb_input.specs.InputFunctions.{pins_and_inputs, point_pins, refuted, lost, stage, boxes_quantified}
use Rattle.bb_input.proofs.Game.{won, lost_game}
use Rattle.bb_input.proofs.OrderLemmas.{pins_of}
use Rattle.bb_input.proofs.Points.{bits_prefix}

module _ (quantifiers : QuantifierLaws) (tables : TableLaws) (functions : FunctionLaws) (spec imp : Netlist) where
  -- the boxes up to one and those after it
  module _ (done rest : List Pins) (split : imp.boxes ≡ done ++ rest) (p : List Bool) (whole : length p ≡ pins_and_inputs imp) where
    abbrev at : ℕ
    at = pin_count done

    abbrev t : Truth
    t = boxes_quantified at rest (refuted spec imp)

    count : pin_count imp.boxes ≡ at + pin_count rest
    count = ap pin_count split ∙ sum_by-append pins_of done rest

    prefix : length (take at p) ≡ at
    prefix = omega (arith, length-take at p, whole, count)

    after : length (drop at p) ≡ pin_count rest + imp.inputs
    after = omega (arith, length-drop at p, whole, count)

    point : truth_at t (take at p ++ drop at p) ≡ truth_at t p
    point = ap (truth_at t) (take-append-drop at p)

    -- the bits after do not matter
    bits : point_pins done p ≡ point_pins done (take at p)
    bits = ap (point_pins done) (sym (take-append-drop at p)) ∙ bits_prefix done (take at p) (drop at p) (omega (arith, prefix))

    pub boxes_say : (truth_at t p ≡ false) ↔ InputsHaveOutputs (ChoicesSuit spec imp) rest (point_pins done p)
    boxes_say = (
      (λ none. subst (InputsHaveOutputs (ChoicesSuit spec imp) rest) (sym bits) (won quantifiers tables functions spec imp rest done split (take at p) (drop at p) prefix after (point ∙ none))),
      (λ wins. not_true (truth_at t p) (λ some. lost_game quantifiers tables functions spec imp rest done split (take at p) (drop at p) prefix after (point ∙ some) (subst (InputsHaveOutputs (ChoicesSuit spec imp) rest) bits wins))),
    )

  pub stages_say : (b : ℕ) → b < length imp.boxes → (p : List Bool) → length p ≡ pins_and_inputs imp
      → (truth_at (stage spec imp b) p ≡ false) ↔ InputsHaveOutputs (ChoicesSuit spec imp) (drop (b + 1) imp.boxes) (point_pins (take (b + 1) imp.boxes) p)
  stages_say b l p whole = boxes_say (take (b + 1) imp.boxes) (drop (b + 1) imp.boxes) (sym (take-append-drop (b + 1) imp.boxes)) p whole

  pub last_reports : (p : List Bool) → length p ≡ pins_and_inputs imp → (truth_at (lost spec imp) p ≡ false) ↔ SomeChoicesSuit spec imp
  last_reports p whole = boxes_say [] imp.boxes refl p whole
