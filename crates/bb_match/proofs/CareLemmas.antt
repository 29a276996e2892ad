-- A flat netlist without an output of the top, and two netlists with a care output: they fit, and are refused, as they do and are
-- without that output where none is asked for.
use Rattle.std.proofs.Common.{◌≡◌, ◌≢◌, ℕ, zero, suc, ◌+◌, ◌<◌, Bool, true, false, true≢false, cond, not, List, [], ◌∷◌, take, drop, length, All, AllPairs, Contains, Option, Some, None, refl, sym, ap, subst, ◌∙◌, arith}
use Rattle.std.specs.Prelude.{slice_get}
use Rattle.std.specs.List.{filter}
use Rattle.std.proofs.lemmas.List.Edits.{length-remove}
use Rattle.std.proofs.lemmas.List.Elements.{All-append, All-contains, All-drop, All-filter, All-head, All-tail, All-take, All-weaker, Contains-get_or, filter_passes}
use Rattle.std.proofs.lemmas.List.Quantifiers.{all_pairs_remove}
use Rattle.std.proofs.lemmas.Option.{same_Some}
use Rattle.std.proofs.lemmas.Slice.Eq.{bytes_eq-Decides}
use Rattle.bb_bits.specs.Names.{IsPrintable, same_name}
use Rattle.bb_lemmas.proofs.Apart.{pairs_tail}
use Rattle.bb_lemmas.proofs.Names.{same_self}
use Rattle.bb_net.specs.Flats.{FlatNet, IsFlat}
use Rattle.bb_match.specs.Refusals.{AreAmong, IsMissing, IsFirstMissing, compared, PairCause, Box, Care, SpecInput, SpecOutput, ImpInput, ImpOutput, SpecRegister, ImpRegister, SpecClock, ImpClock, Clocks, Pins, IsReported, IsAbsent}
use Rattle.bb_match.specs.Laws.{CareIsTakenOut, CareOutputsAreLeftOut, ComparedAreTheOthers, FittingNetsHaveTheirOutputs, WithoutOutputsAreFlat}
use Rattle.bb_match.specs.Pairing.{without, without_output}
use Rattle.bb_match.proofs.PairLaws.{outputs_among, pairs_head}
use Rattle.bb_match.proofs.PlaceLemmas.{occurs_at}

-- a list without what is at a place

pub all_without : {A : Type 0} (P : A → Type 0) (k : ℕ) (xs : List A) → All P xs → All P (without k xs)
all_without P k xs all = All-append P (take k xs) (drop (suc k) xs) (All-take P k xs all) (All-drop P (suc k) xs all)

pub length-without : {A : Type 0} (k : ℕ) (xs : List A) → k < length xs → length (without k xs) + 1 ≡ length xs
length-without k xs within = omega (arith, length-remove xs k within)

-- a flat netlist is one without an output of the top

pub without_outputs_are_flat : WithoutOutputsAreFlat
without_outputs_are_flat f k flat within = record {
  net = record {
    prefix = flat.net.prefix;
    ordered = flat.net.ordered;
    listed = flat.net.listed;
    driven = flat.net.driven;
    boxes_ordered = flat.net.boxes_ordered;
    pins_there = flat.net.pins_there;
    outs_there = all_without (λ place. place < length f.net.cells) k f.net.outs flat.net.outs_there;
    cells_fit = flat.net.cells_fit;
    boxes_fit = flat.net.boxes_fit;
  };
  named = record {
    inputs = flat.named.inputs;
    outputs = omega (arith, flat.named.outputs, length-without k f.outs within, cells);
    boxes = flat.named.boxes;
  };
  apart = record { ins = flat.apart.ins; regs = flat.apart.regs; outs = all_pairs_remove ◌≢◌ f.outs k within flat.apart.outs; boxes = flat.apart.boxes };
  printable = record { ins = flat.printable.ins; regs = flat.printable.regs; outs = all_without IsPrintable k f.outs flat.printable.outs; boxes = flat.printable.boxes; modules = flat.printable.modules };
  modules = flat.modules;
  small = record { cells = flat.small.cells; outs = omega (arith, flat.small.outs, cells); boxes = flat.small.boxes };
  clocks = flat.clocks;
}
  where
    cells : length (without k f.net.outs) + 1 ≡ length f.net.outs
    cells = length-without k f.net.outs (omega (arith, within, flat.named.outputs))

-- what is compared is all but the care output

other_kept : (care : List ℕ) (xs : List (List ℕ)) → All (λ x. care ≢ x) xs → filter (λ text. not (same_name care text)) xs ≡ xs
other_kept care [] off = refl
other_kept care (x ∷ xs) off = by (same_name care x) refl (other_kept care xs (All-tail (λ y. care ≢ y) x xs off))
  where
    by : (b : Bool) → same_name care x ≡ b → filter (λ text. not (same_name care text)) xs ≡ xs → cond (not b) (x ∷ filter (λ text. not (same_name care text)) xs) (filter (λ text. not (same_name care text)) xs) ≡ x ∷ xs
    by true e others = absurd (All-head (λ y. care ≢ y) x xs off ((bytes_eq-Decides care x).0 e))
    by false e others = ap (λ l. x ∷ l) others

compared_without : (care : List ℕ) (place : ℕ) (outs : List (List ℕ)) → AllPairs ◌≢◌ outs → slice_get outs place ≡ Some care → compared (Some care) outs ≡ without place outs
compared_without care place [] apart occurs = cc occurs
compared_without care zero (x ∷ xs) apart occurs =
    let is : x ≡ care = same_Some x care occurs in
    ap (λ b. cond (not b) (x ∷ filter (λ text. not (same_name care text)) xs) (filter (λ text. not (same_name care text)) xs)) ((bytes_eq-Decides care x).1 (sym is)) ∙ other_kept care xs (subst (λ y. All (λ z. y ≢ z) xs) is (pairs_head ◌≢◌ x xs apart))
compared_without care (suc place) (x ∷ xs) apart occurs = by (same_name care x) refl (compared_without care place xs (pairs_tail ◌≢◌ x xs apart) occurs)
  where
    by : (b : Bool) → same_name care x ≡ b → compared (Some care) xs ≡ without place xs → cond (not b) (x ∷ compared (Some care) xs) (compared (Some care) xs) ≡ without (suc place) (x ∷ xs)
    by true e others = absurd (All-contains (λ y. x ≢ y) xs care (pairs_head ◌≢◌ x xs apart) (occurs_at xs care place occurs) (sym ((bytes_eq-Decides care x).0 e)))
    by false e others = ap (λ l. x ∷ l) others

pub compared_are_the_others : ComparedAreTheOthers
compared_are_the_others care f place flat occurs = compared_without care place f.outs flat.apart.outs occurs

-- causes without the care output

module _ (care : List ℕ) (spec imp : FlatNet) (place : ℕ) (flat : IsFlat spec) (occurs : slice_get spec.outs place ≡ Some care) where
  outs : compared (Some care) spec.outs ≡ without place spec.outs
  outs = compared_without care place spec.outs flat.apart.outs occurs

  absent_into : (cause : PairCause) → IsAbsent (Some care) spec imp cause → IsAbsent None (without_output place spec) imp cause
  absent_into Box absent = absent
  absent_into Care absent = tt
  absent_into SpecInput absent = absent
  absent_into SpecOutput absent = subst (λ l. AreAmong l imp.outs) outs absent
  absent_into ImpInput absent = absent
  absent_into ImpOutput absent = subst (AreAmong imp.outs) outs absent
  absent_into SpecRegister absent = absent
  absent_into ImpRegister absent = absent
  absent_into SpecClock absent = absent
  absent_into ImpClock absent = absent
  absent_into Clocks absent = absent
  absent_into Pins absent = absent

  absent_from : (cause : PairCause) → IsAbsent None (without_output place spec) imp cause → IsAbsent (Some care) spec imp cause
  absent_from Box absent = absent
  absent_from Care absent = occurs_at spec.outs care place occurs
  absent_from SpecInput absent = absent
  absent_from SpecOutput absent = subst (λ l. AreAmong l imp.outs) (sym outs) absent
  absent_from ImpInput absent = absent
  absent_from ImpOutput absent = subst (AreAmong imp.outs) (sym outs) absent
  absent_from SpecRegister absent = absent
  absent_from ImpRegister absent = absent
  absent_from SpecClock absent = absent
  absent_from ImpClock absent = absent
  absent_from Clocks absent = absent
  absent_from Pins absent = absent

  reported_into : (cause : PairCause) (n : List ℕ) → IsReported (Some care) spec imp cause n → IsReported None (without_output place spec) imp cause n
  reported_into Box n reported = reported
  reported_into Care n reported = absurd (reported.1 (subst (Contains spec.outs) (same_Some care n reported.0) (occurs_at spec.outs care place occurs)))
  reported_into SpecInput n reported = reported
  reported_into SpecOutput n reported = subst (λ l. IsFirstMissing l imp.outs n) outs reported
  reported_into ImpInput n reported = reported
  reported_into ImpOutput n reported = subst (λ l. IsFirstMissing imp.outs l n) outs reported
  reported_into SpecRegister n reported = reported
  reported_into ImpRegister n reported = reported
  reported_into SpecClock n reported = reported
  reported_into ImpClock n reported = reported
  reported_into Clocks n reported = reported
  reported_into Pins n reported = reported

  reported_from : (cause : PairCause) (n : List ℕ) → IsReported None (without_output place spec) imp cause n → IsReported (Some care) spec imp cause n
  reported_from Box n reported = reported
  reported_from Care n reported = cc reported.0
  reported_from SpecInput n reported = reported
  reported_from SpecOutput n reported = subst (λ l. IsFirstMissing l imp.outs n) (sym outs) reported
  reported_from ImpInput n reported = reported
  reported_from ImpOutput n reported = subst (λ l. IsFirstMissing imp.outs l n) (sym outs) reported
  reported_from SpecRegister n reported = reported
  reported_from ImpRegister n reported = reported
  reported_from SpecClock n reported = reported
  reported_from ImpClock n reported = reported
  reported_from Clocks n reported = reported
  reported_from Pins n reported = reported

pub care_is_taken_out : CareIsTakenOut
care_is_taken_out care spec imp place flat occurs = record {
  fit = ((λ fit cause. absent_into care spec imp place flat occurs cause (fit cause)), (λ fit cause. absent_from care spec imp place flat occurs cause (fit cause)));
  refused = λ fault. (
    (λ r. record { cause = r.cause; name = r.name; is = r.is; reported = reported_into care spec imp place flat occurs r.cause r.name r.reported; earlier = λ other before. absent_into care spec imp place flat occurs other (r.earlier other before) }),
    (λ r. record { cause = r.cause; name = r.name; is = r.is; reported = reported_from care spec imp place flat occurs r.cause r.name r.reported; earlier = λ other before. absent_from care spec imp place flat occurs other (r.earlier other before) }),
  );
}

-- what is compared of the specification's outputs are outputs of it
compared_there : (care : Option (List ℕ)) (outs : List (List ℕ)) → All (Contains outs) (compared care outs)
compared_there None outs = λ k d within. Contains-get_or outs k d within
compared_there (Some care) outs = All-filter (λ text. not (same_name care text)) (Contains outs) outs (λ k d within. Contains-get_or outs k d within)

pub fitting_nets_have_their_outputs : FittingNetsHaveTheirOutputs
fitting_nets_have_their_outputs care spec imp fit =
    outputs_among imp spec (All-weaker (Contains (compared care spec.outs)) (Contains spec.outs) (λ n has. All-contains (Contains spec.outs) (compared care spec.outs) n (compared_there care spec.outs) has) imp.outs (fit ImpOutput)) (fit ImpRegister)

-- the implementation has no care output

not_compared : (care : List ℕ) (outs : List (List ℕ)) → IsMissing (compared (Some care) outs) care
not_compared care outs has =
    let passes = All-contains (λ text. not (same_name care text) ≡ true) (compared (Some care) outs) care (filter_passes (λ text. not (same_name care text)) outs) has in
    true≢false (sym passes ∙ ap not (same_self care))

pub care_outputs_are_left_out : CareOutputsAreLeftOut
care_outputs_are_left_out care spec imp fit = (lacks, λ plain. lacks (All-contains (Contains imp.outs) spec.outs care (plain SpecOutput) (fit Care)))
  where
    lacks : IsMissing imp.outs care
    lacks has = not_compared care spec.outs (All-contains (Contains (compared (Some care) spec.outs)) imp.outs care (fit ImpOutput) has)
