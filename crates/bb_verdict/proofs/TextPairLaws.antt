-- Two texts have one first refusal at most, and none where a pair implements them.
use Rattle.std.proofs.Common.{◌≡◌, ◌⊎◌, ℕ, Bool, true, false, if◌then◌else◌, List, Option, Some, None, refl, sym, ap, subst, ◌∙◌, inl, inr}
use Rattle.std.specs.Prelude.{Result, Ok, Err, IfOk, IfErr, MatchResult}
use Rattle.std.proofs.lemmas.Result.{IfErr-weaker}
use Rattle.bb_net.specs.Flats.{FlatNet}
use Rattle.bb_design.specs.Hierarchy.{Design}
use Rattle.bb_design.specs.Inside.Allowed.{SoundTextsAreAllowed}
use Rattle.bb_design.specs.Refusals.{BoxTexts, IsSoundDesign, PortTexts, RegisterTexts}
use Rattle.bb_implements.specs.Implements.{Implements}
use Rattle.bb_match.specs.declared.fault.MatchFault.{MatchFault}
use Rattle.bb_match.specs.declared.fault.MatchFault.TheVariants as pair
use Rattle.bb_equiv.specs.Laws.IsomorphicPairs.{PairsForDesignsAreIsomorphic}
use Rattle.bb_equiv.specs.DesignEquivalence.{IsPairFor}
use Rattle.bb_equiv.specs.DesignFit.{IsRefusalFor}
use Rattle.bb_equiv.specs.Laws.DesignRefusals.{DesignRefusalsAreOne, NetsAreTakenAsDesigns, NotFitAndRefused, PairsImplementExactlyFitting}
use Rattle.bb_match.specs.Refusals.{IsFirstPairRefusal}
use Rattle.bb_net.specs.Pairs.{NetPair}
use Rattle.bb_parse.specs.Laws.{SourcesAreFormed}
use Rattle.bb_checks.specs.declared.line.Line.{Line}
use Rattle.bb_verdict.specs.declared.answer.Answer.{Answer}
use Rattle.bb_verdict.specs.declared.requested.TextComparison.{TextComparison}
use Rattle.bb_frontend.specs.declared.refusal.Refusal.{Refusal}
use Rattle.bb_frontend.specs.declared.refusal.Refusal.TheVariants.{Spec, Imp, Pair, NoMemory}
use Rattle.bb_frontend.specs.declared.side_fault.SideFault.{SideFault}
use Rattle.bb_frontend.specs.declared.side_fault.SideFault.TheVariants as side
use Rattle.bb_frontend.specs.RefusalLines.{refusal_line}
use Rattle.bb_verdict.specs.declared.pair_texts.Made.{Made}
use Rattle.bb_verdict.specs.FilledTexts.{MayFollowVerdict, NotRequested}
use Rattle.bb_verdict.specs.Inside.Made.{IsChecked, IsMade, KeptFollows}
use Rattle.bb_verdict.specs.OwnTexts.{HasOwnTexts}
use Rattle.bb_verdict.specs.TextAnswers.{Judges, Refused, Judged}
use Rattle.bb_frontend.specs.TextDesigns.{IsDesignOf, IsReadAs, IsSideFault, TextDesignsAreOne, SideFaultsAreOne, NotDesignAndFault}
use Rattle.bb_verdict.specs.Laws.TextPairs.{DesignsAreAllowed, RefusalsAreOne, NotPairAndRefusal, TextPairsAreIsomorphic}
use Rattle.bb_verdict.specs.TextPairs.{AreDesignsOf, AreReadAs, IsRefusal, ImplementsTexts}
use Rattle.bb_frontend.specs.Inside.TextRefusals.{of_spec, of_imp, of_pair}

pub designs_are_allowed : SourcesAreFormed → SoundTextsAreAllowed → DesignsAreAllowed
designs_are_allowed formed allowed name text d is = allowed d.text name d.top (formed text d.text is.reads) is.faultless (d.top, is.top, is.sound) is.top

-- a text reads as its design
pub reads_as : {name : Option (List ℕ)} {text : List ℕ} {d : Design} → IsDesignOf name text d → IsReadAs name text d
reads_as is = record { reads = is.reads; top = is.top }

-- in a sound design no text is twice
pub own_texts : (d : Design) → IsSoundDesign d → HasOwnTexts d
own_texts d sound = record { boxes = sound BoxTexts; registers = sound RegisterTexts; inputs = (sound PortTexts).0; outputs = (sound PortTexts).1 }

pub are_read_as : (requested : TextComparison) (spec imp : List ℕ) (s i : Design) → AreDesignsOf requested spec imp s i → AreReadAs requested spec imp s i
are_read_as requested spec imp s i are = record {
  spec_reads = reads_as are.spec_design;
  imp_reads = reads_as are.imp_design;
  spec_sound = are.spec_design.faultless;
  imp_sound = are.imp_design.faultless;
  spec_own = own_texts s are.spec_design.sound;
  imp_own = own_texts i are.imp_design.sound;
}

-- a fault of one side, or of the pair, is a refusal of the two texts

pub spec_refused : (requested : TextComparison) (spec : List ℕ) (fault : SideFault) → (fault ≡ side.NoMemory) ⊎ IsSideFault requested.spec_top spec fault → (of_spec fault ≡ NoMemory) ⊎ ((imp : List ℕ) → IsRefusal requested spec imp (of_spec fault))
spec_refused requested spec fault (inl none) = inl (ap of_spec none)
spec_refused requested spec (side.Token line) (inr is) = inr (λ imp. is)
spec_refused requested spec (side.Statement line) (inr is) = inr (λ imp. is)
spec_refused requested spec (side.Deep line) (inr is) = inr (λ imp. is)
spec_refused requested spec side.Unended (inr is) = inr (λ imp. is)
spec_refused requested spec (side.Named fault) (inr is) = inr (λ imp. is)
spec_refused requested spec (side.Elaborated fault) (inr is) = inr (λ imp. is)
spec_refused requested spec side.NoMemory (inr is) = absurd is

pub imp_refused : (requested : TextComparison) (imp : List ℕ) (fault : SideFault) → (fault ≡ side.NoMemory) ⊎ IsSideFault requested.imp_top imp fault
    → (of_imp fault ≡ NoMemory) ⊎ ((spec : List ℕ) (s : Design) → IsDesignOf requested.spec_top spec s → IsRefusal requested spec imp (of_imp fault))
imp_refused requested imp fault (inl none) = inl (ap of_imp none)
imp_refused requested imp (side.Token line) (inr is) = inr (λ spec s d. (s, d, is))
imp_refused requested imp (side.Statement line) (inr is) = inr (λ spec s d. (s, d, is))
imp_refused requested imp (side.Deep line) (inr is) = inr (λ spec s d. (s, d, is))
imp_refused requested imp side.Unended (inr is) = inr (λ spec s d. (s, d, is))
imp_refused requested imp (side.Named fault) (inr is) = inr (λ spec s d. (s, d, is))
imp_refused requested imp (side.Elaborated fault) (inr is) = inr (λ spec s d. (s, d, is))
imp_refused requested imp side.NoMemory (inr is) = absurd is

-- a refusal of the specification is one beside every implementation, and one of the implementation beside every sound specification
pub with_imp : (requested : TextComparison) (spec imp : List ℕ) (r : Refusal) → (r ≡ NoMemory) ⊎ ((imp : List ℕ) → IsRefusal requested spec imp r) → (r ≡ NoMemory) ⊎ IsRefusal requested spec imp r
with_imp requested spec imp r (inl none) = inl none
with_imp requested spec imp r (inr each) = inr (each imp)

pub with_spec : (requested : TextComparison) (spec imp : List ℕ) (r : Refusal) (s : Design) → IsDesignOf requested.spec_top spec s
    → (r ≡ NoMemory) ⊎ ((spec : List ℕ) (s : Design) → IsDesignOf requested.spec_top spec s → IsRefusal requested spec imp r) → (r ≡ NoMemory) ⊎ IsRefusal requested spec imp r
with_spec requested spec imp r s is (inl none) = inl none
with_spec requested spec imp r s is (inr each) = inr (each spec s is)

module _ (allowed : DesignsAreAllowed) (taken : NetsAreTakenAsDesigns) (requested : TextComparison) (f g : FlatNet) where
  abbrev pub IsTextRefusal : Refusal → Type 0
  IsTextRefusal r = (spec imp : List ℕ) (s i : Design) → AreDesignsOf requested spec imp s i → Implements s f → Implements i g → IsRefusal requested spec imp r

  refused_for : (fault : MatchFault) → IsFirstPairRefusal requested.care f g fault → IsTextRefusal (Pair fault)
  refused_for fault is spec imp s i are x y =
      let good = allowed requested.spec_top spec s are.spec_design in
      let also = allowed requested.imp_top imp i are.imp_design in
      (s, i, are, ((taken requested.care s i f g good also (record { spec_implements = x; imp_implements = y })).refused fault).0 is)

  pub pair_refused : (fault : MatchFault) → (fault ≡ pair.NoMemory) ⊎ IsFirstPairRefusal requested.care f g fault → (of_pair fault ≡ NoMemory) ⊎ IsTextRefusal (of_pair fault)
  pair_refused fault (inl none) = inl (ap of_pair none)
  pair_refused (pair.SpecBox n) (inr is) = inr (refused_for (pair.SpecBox n) is)
  pair_refused (pair.NoCare n) (inr is) = inr (refused_for (pair.NoCare n) is)
  pair_refused (pair.PortDiffers n) (inr is) = inr (refused_for (pair.PortDiffers n) is)
  pair_refused (pair.RegDiffers n) (inr is) = inr (refused_for (pair.RegDiffers n) is)
  pair_refused (pair.ClockNotInput n) (inr is) = inr (refused_for (pair.ClockNotInput n) is)
  pair_refused (pair.ClockDiffers n) (inr is) = inr (refused_for (pair.ClockDiffers n) is)
  pair_refused pair.TooManyPins (inr is) = inr (refused_for pair.TooManyPins is)
  pair_refused pair.NoMemory (inr is) = inl refl

-- one refusal, and no pair beside it

module _ (allowed : DesignsAreAllowed) (one_design : TextDesignsAreOne) (no_fault : NotDesignAndFault) where
  module _ (one_fault : SideFaultsAreOne) (one_refusal : DesignRefusalsAreOne) where
    pair_one : (requested : TextComparison) (spec imp : List ℕ) (e f : MatchFault) → IsRefusal requested spec imp (Pair e) → IsRefusal requested spec imp (Pair f) → e ≡ f
    pair_one requested spec imp e f (s, i, are, is) (t, j, be, also) =
        let left : t ≡ s = one_design requested.spec_top spec t s be.spec_design are.spec_design in
        let right : j ≡ i = one_design requested.imp_top imp j i be.imp_design are.imp_design in
        one_refusal requested.care s i e f is
        (subst (λ z. IsRefusalFor requested.care z i f) left (subst (λ z. IsRefusalFor requested.care t z f) right also))

    pub refusals_are_one : RefusalsAreOne
    refusals_are_one requested spec imp (Spec e) (Spec f) is also = ap Spec (one_fault requested.spec_top spec e f is also)
    refusals_are_one requested spec imp (Spec e) (Imp f) is (s, d, also) = absurd (no_fault requested.spec_top spec s e d is)
    refusals_are_one requested spec imp (Spec e) (Pair f) is (s, i, are, also) = absurd (no_fault requested.spec_top spec s e are.spec_design is)
    refusals_are_one requested spec imp (Spec e) NoMemory is also = absurd also
    refusals_are_one requested spec imp (Imp e) (Spec f) (s, d, is) also = absurd (no_fault requested.spec_top spec s f d also)
    refusals_are_one requested spec imp (Imp e) (Imp f) (s, d, is) (t, c, also) = ap Imp (one_fault requested.imp_top imp e f is also)
    refusals_are_one requested spec imp (Imp e) (Pair f) (s, d, is) (t, j, are, also) = absurd (no_fault requested.imp_top imp j e are.imp_design is)
    refusals_are_one requested spec imp (Imp e) NoMemory is also = absurd also
    refusals_are_one requested spec imp (Pair e) (Spec f) (s, i, are, is) also = absurd (no_fault requested.spec_top spec s f are.spec_design also)
    refusals_are_one requested spec imp (Pair e) (Imp f) (s, i, are, is) (t, c, also) = absurd (no_fault requested.imp_top imp i f are.imp_design also)
    refusals_are_one requested spec imp (Pair e) (Pair f) is also = ap Pair (pair_one requested spec imp e f is also)
    refusals_are_one requested spec imp (Pair e) NoMemory is also = absurd also
    refusals_are_one requested spec imp NoMemory f is also = absurd is

  module _ (exactly : PairsImplementExactlyFitting) (apart : NotFitAndRefused) where
    pub no_pair_and_refusal : NotPairAndRefusal
    no_pair_and_refusal requested spec imp p (Spec e) (s, i, are, for) is = no_fault requested.spec_top spec s e are.spec_design is
    no_pair_and_refusal requested spec imp p (Imp e) (s, i, are, for) (t, d, is) = no_fault requested.imp_top imp i e are.imp_design is
    no_pair_and_refusal requested spec imp p (Pair e) (s, i, are, for) (t, j, be, is) =
        let left : t ≡ s = one_design requested.spec_top spec t s be.spec_design are.spec_design in
        let right : j ≡ i = one_design requested.imp_top imp j i be.imp_design are.imp_design in
        apart requested.care s i e ((exactly requested.care requested.options.shared s i (allowed requested.spec_top spec s are.spec_design) (allowed requested.imp_top imp i are.imp_design)).fit p for)
        (subst (λ z. IsRefusalFor requested.care z i e) left (subst (λ z. IsRefusalFor requested.care t z e) right is))
    no_pair_and_refusal requested spec imp p NoMemory occurs is = is

-- pairs of two texts are pairs of the same designs

pub text_pairs_are_isomorphic : DesignsAreAllowed → TextDesignsAreOne → PairsForDesignsAreIsomorphic → TextPairsAreIsomorphic
text_pairs_are_isomorphic allowed one_design law requested spec imp p q (s, i, are, for) (t, j, be, also) =
    let left : t ≡ s = one_design requested.spec_top spec t s be.spec_design are.spec_design in
    let right : j ≡ i = one_design requested.imp_top imp j i be.imp_design are.imp_design in
    law requested.care requested.options.shared s i p q (allowed requested.spec_top spec s are.spec_design) (allowed requested.imp_top imp i are.imp_design) for
    (subst (λ z. IsPairFor requested.care requested.options.shared z i q) left (subst (λ z. IsPairFor requested.care requested.options.shared t z q) right also))

-- what fails fails by the first refusal

module _ (one : RefusalsAreOne) (apart : NotPairAndRefusal) (requested : TextComparison) (spec imp : List ℕ) where
  abbrev MayRefuse : Refusal → Type 0
  MayRefuse r = (r ≡ NoMemory) ⊎ IsRefusal requested spec imp r

  pub only_pair : {A : Type 0} (result : Result A Refusal) → IfErr result MayRefuse → (p : NetPair) → ImplementsTexts requested spec imp p → IfErr result (λ r. r ≡ NoMemory)
  only_pair result fails p occurs = IfErr-weaker result MayRefuse (λ r. r ≡ NoMemory) by fails
    where
      by : (r : Refusal) → MayRefuse r → r ≡ NoMemory
      by r (inl none) = none
      by r (inr is) = absurd (apart requested spec imp p r occurs is)

  pub only_refusal : (result : Result Made Refusal) → IfOk result (IsMade requested spec imp) → IfErr result MayRefuse → (first : Refusal) → IsRefusal requested spec imp first
      → MatchResult result (λ made. ⊥) (λ r. (r ≡ first) ⊎ (r ≡ NoMemory))
  only_refusal (Ok made) ok fails first is = apart requested spec imp made.pair first (ok.s, ok.i, ok.designs, ok.pair) is
  only_refusal (Err r) ok (inl none) first is = inr none
  only_refusal (Err r) ok (inr reported) first is = inl (one requested spec imp r first reported is)

-- the answer to two texts

pub both_refused : (requested : TextComparison) (spec imp : List ℕ) (r : Refusal) (s i : Design) (f g : FlatNet) → IsDesignOf requested.spec_top spec s → IsDesignOf requested.imp_top imp i → Implements s f → Implements i g
    → (r ≡ NoMemory) ⊎ ((spec imp : List ℕ) (s i : Design) → AreDesignsOf requested spec imp s i → Implements s f → Implements i g → IsRefusal requested spec imp r) → (r ≡ NoMemory) ⊎ IsRefusal requested spec imp r
both_refused requested spec imp r s i f g x y occurs also (inl none) = inl none
both_refused requested spec imp r s i f g x y occurs also (inr each) = inr (each spec imp s i (record { spec_design = x; imp_design = y }) occurs also)

-- what is made of them: the pair of the two netlists, and the second of these where it is kept
pub is_made : (requested : TextComparison) (spec imp : List ℕ) (s i : Design) → IsDesignOf requested.spec_top spec s → IsDesignOf requested.imp_top imp i → (made : Made) (f : FlatNet)
    → (pair : IsPairFor requested.care requested.options.shared s i made.pair) × (pair.imp_net ≡ f) → made.imp ≡ (if requested.fill then Some f else None) → IsMade requested spec imp made
is_made requested spec imp s i x y made f (pair, same) keeps =
    record { s = s; i = i; designs = record { spec_design = x; imp_design = y }; pair = pair; kept = keeps ∙ ap (λ g. if requested.fill then Some g else None) (sym same) }

-- what follows is what may follow
kept_follows : (fill : Bool) (imp : Option FlatNet) (f : FlatNet) (kinds : List ℕ) (lines : List Line) (rest : List ℕ) → imp ≡ (if fill then Some f else None) → KeptFollows imp kinds lines rest → MayFollowVerdict fill f kinds lines rest
kept_follows true imp f kinds lines rest same follows = subst (λ z. KeptFollows z kinds lines rest) same follows
kept_follows false imp f kinds lines rest same follows = NotRequested refl (subst (λ z. KeptFollows z kinds lines rest) same follows)

pub judged : {E : Type 0} (requested : TextComparison) (spec imp : List ℕ) (made : Made) → IsMade requested spec imp made → (result : Result Answer E) → IfOk result (IsChecked made requested.options) → IfOk result (λ a. Judges requested spec imp a.status a.report.items)
judged requested spec imp made is (Ok a) checked = Judged made.pair checked.lines is.s is.i is.designs is.pair checked.climb checked.status checked.rest
    (kept_follows requested.fill made.imp is.pair.imp_net made.pair.kinds checked.lines checked.rest is.kept checked.follows) checked.report
judged requested spec imp made is (Err e) h = h

pub refuses : {E : Type 0} (requested : TextComparison) (spec imp : List ℕ) (r : Refusal) → (r ≡ NoMemory) ⊎ IsRefusal requested spec imp r → (result : Result Answer E)
    → IfOk result (λ a. a.status ≡ 2) → IfOk result (λ a. a.report.items ≡ refusal_line r) → IfOk result (λ a. r ≡ NoMemory → ⊥) → IfOk result (λ a. Judges requested spec imp a.status a.report.items)
refuses requested spec imp r (inl none) (Ok a) s t never = absurd (never none)
refuses requested spec imp r (inr is) (Ok a) s t never = Refused r is s t
refuses requested spec imp r may (Err e) s t never = s
