-- Two netlists that fit have a pair, where no care output is asked for: texts that are in a list have places there, by which a netlist can be rearranged.
use Rattle.std.proofs.Common.{ℕ, Bool, List, [], ◌∷◌, map, All, Contains, refl, ap, ap₂, ◌∙◌}
use Rattle.std.specs.Prelude.{None, Some}
use Rattle.std.proofs.lemmas.List.Elements.{All-head, All-tail}
use Rattle.std.proofs.lemmas.Option.{slice_get-get_or}
use Rattle.bb_net.specs.Kinds.{AreKinds}
use Rattle.bb_net.specs.Flats.{FlatNet, IsFlat}
use Rattle.bb_net.specs.Pairs.{NetPair, IsPair, box_key}
use Rattle.bb_net.specs.Rearrangements.{RearrangedNetsExist}
use Rattle.bb_net.specs.CutPoints.{cut_inputs, cut_outputs}
use Rattle.bb_match.specs.Refusals.{Fit, ImpInput, ImpRegister, SpecOutput, SpecRegister}
use Rattle.bb_match.specs.Pairing.{IsPlainPairOf, Picks}
use Rattle.bb_match.proofs.KindLemmas.{Fitting}
use Rattle.bb_match.proofs.PairLemmas.{beside, numbers_count, numbers_there, pair_of, pair_with, picks_there, small}
use Rattle.bb_match.proofs.PairLaws.{inputs_among, outputs_among}

-- what is in a list has places there
pub places_exist : {A : Type 0} (xs us : List A) → All (Contains xs) us → (ps : List ℕ) × Picks xs ps us
places_exist xs [] all = ([], refl)
places_exist xs (u ∷ us) all =
    let has = All-head (Contains xs) u us all in
    let rest = places_exist xs us (All-tail (Contains xs) u us all) in
    (has.0 ∷ rest.0, ap₂ (λ x l. x ∷ l) (slice_get-get_or xs has.0 u has.1 ∙ ap Some has.2) rest.1)

pub plain_kept_pair : RearrangedNetsExist → Fitting → ((keys : List (List ℕ)) → (kinds : List ℕ) × AreKinds keys kinds) → (shared : Bool) (spec imp : FlatNet) → IsFlat spec → IsFlat imp → Fit None spec imp
    → (p : NetPair) × IsPair p × IsPlainPairOf shared spec imp p
plain_kept_pair exist fitting some shared spec imp flat_spec flat_imp fit =
    let numbers = places_exist (cut_inputs spec) (cut_inputs imp) (inputs_among imp spec (fit ImpInput) (fit ImpRegister)) in
    let picks = places_exist (cut_outputs imp) (cut_outputs spec) (outputs_among spec imp (fit SpecOutput) (fit SpecRegister)) in
    let new = exist imp.net numbers.0 picks.0 flat_imp.net (numbers_count spec imp numbers.0 flat_imp numbers.1) (numbers_there spec imp numbers.0 flat_spec flat_imp fit numbers.1) (picks_there spec imp picks.0 flat_imp picks.1) in
    let kinds = some (map (box_key shared) imp.boxes) in (
      pair_with spec imp new.0 kinds.0,
      record {
        spec = flat_spec.net;
        imp = new.1;
        beside = beside fitting shared spec imp numbers.0 picks.0 new.0 kinds.0 flat_spec flat_imp fit new.2 picks.1 kinds.1;
        small = small spec imp numbers.0 picks.0 new.0 kinds.0 flat_spec flat_imp fit new.2 picks.1;
      },
      pair_of shared spec imp numbers.0 picks.0 new.0 kinds.0 fit new.2 numbers.1 picks.1 kinds.1,
    )
