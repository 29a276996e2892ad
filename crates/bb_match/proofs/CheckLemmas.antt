-- From what a check says to a refusal: no cause before it holds.
use Rattle.std.proofs.Common.{◌≡◌, ◌⊎◌, ℕ, ◌+◌, List, [], ◌∷◌, Option, None, Some, Result, Ok, Err, refl, sym, subst, inl, inr}
use Rattle.std.specs.Prelude.{slice_get, IfErr, IfOk, IsErrAnd, MatchResult, OnOk}
use Rattle.bb_net.specs.Pairs.{BoxTexts}
use Rattle.bb_net.specs.declared.flat.Reg.{Reg}
use Rattle.bb_bits.specs.Closures.{IsFirst}
use Rattle.bb_net.specs.Flats.{FlatNet, IsFlat}
use Rattle.bb_match.specs.declared.fault.MatchFault.{MatchFault}
use Rattle.bb_match.specs.declared.fault.MatchFault.TheVariants.{NoMemory}
use Rattle.bb_match.specs.declared.fault.MatchFault.TheVariants as faults
use Rattle.bb_match.specs.Refusals.{IsMissing, IsFirstMissing, HasNoClock, IsFirstWithoutClock, PairCause, Box, Care, pair_cause_rank, match_fault_of, IsReported, Fit, IsFirstPairRefusal}
use Rattle.bb_match.specs.Pairing.{without_output}
use Rattle.bb_match.proofs.CareLemmas.{care_is_taken_out}
use Rattle.bb_match.proofs.Decisions.{NoneBefore, none_at_first, none_more, refused}
use Rattle.bb_match.proofs.RefusalLaws.{not_fit_and_refused, first_refusals_are_one}

pub if_err_weaker : {A E : Type 0} (r : Result A E) (P Q : E → Type 0) → ((e : E) → P e → Q e) → IfErr r P → IfErr r Q
if_err_weaker (Ok x) P Q f h = tt
if_err_weaker (Err x) P Q f h = f x h

pub if_ok_weaker : {A E : Type 0} (r : Result A E) (P Q : A → Type 0) → ((x : A) → P x → Q x) → IfOk r P → IfOk r Q
if_ok_weaker (Ok x) P Q f h = f x h
if_ok_weaker (Err e) P Q f h = tt

pub on_ok_weaker : {A E : Type 0} (r : Result A E) (P Q : Type 0) → (P → Q) → OnOk r P → OnOk r Q
on_ok_weaker (Ok x) P Q f h = f h
on_ok_weaker (Err x) P Q f h = tt

-- it is want of memory, or says a name of the cause
abbrev pub Reports : Option (List ℕ) → FlatNet → FlatNet → PairCause → MatchFault → Type 0
Reports care spec imp cause fault = (fault ≡ NoMemory) ⊎ ((n : List ℕ) × (fault ≡ match_fault_of cause n) × IsReported care spec imp cause n)

abbrev pub MayRefuse : Option (List ℕ) → FlatNet → FlatNet → MatchFault → Type 0
MayRefuse care spec imp fault = (fault ≡ NoMemory) ⊎ IsFirstPairRefusal care spec imp fault

pub refusal : (care : Option (List ℕ)) (spec imp : FlatNet) (cause : PairCause) (fault : MatchFault) → NoneBefore care spec imp (pair_cause_rank cause) → Reports care spec imp cause fault → MayRefuse care spec imp fault
refusal care spec imp cause fault before (inl none) = inl none
refusal care spec imp cause fault before (inr reported) = inr (subst (IsFirstPairRefusal care spec imp) (sym reported.1) (refused care spec imp cause reported.0 before reported.2))

-- where no care output is asked for, the specification does not lack one
pub past_care : (spec imp : FlatNet) → spec.boxes ≡ [] → NoneBefore None spec imp (pair_cause_rank Care + 1)
past_care spec imp none = none_more None spec imp Care (none_more None spec imp Box (none_at_first None spec imp) none) tt

-- what is answered where there is no cause, and where there is one

pub only_fit : (care : Option (List ℕ)) (spec imp : FlatNet) (fault : MatchFault) → MayRefuse care spec imp fault → Fit care spec imp → fault ≡ NoMemory
only_fit care spec imp fault (inl none) fit = none
only_fit care spec imp fault (inr reported) fit = absurd (not_fit_and_refused care spec imp fault fit reported)

pub only_fault : (care : Option (List ℕ)) (spec imp : FlatNet) (fault first : MatchFault) → MayRefuse care spec imp fault → IsFirstPairRefusal care spec imp first → (fault ≡ first) ⊎ (fault ≡ NoMemory)
only_fault care spec imp fault first (inl none) is = inr none
only_fault care spec imp fault first (inr reported) is = inl (first_refusals_are_one care spec imp fault first reported is)

pub match_err : {A E : Type 0} (r : Result A E) (Q : E → Type 0) (e : E) → IsErrAnd r (λ x. x ≡ e) → Q e → MatchResult r (λ x. ⊥) Q
match_err (Ok x) Q e same q = same
match_err (Err x) Q e same q = subst Q (sym same) q

-- what the checks of one kind say

abbrev pub Missing : (List ℕ → MatchFault) → List (List ℕ) → MatchFault → List (List ℕ) → Type 0
Missing kind others fault texts = (fault ≡ NoMemory) ⊎ ((n : List ℕ) × (fault ≡ kind n) × IsFirstMissing texts others n)

abbrev pub WithBox : MatchFault → List BoxTexts → Type 0
WithBox fault boxes = (fault ≡ NoMemory) ⊎ ((box : BoxTexts) × (rest : List BoxTexts) × (boxes ≡ box ∷ rest) × (fault ≡ faults.SpecBox box.path))

pub box_reported : (care : Option (List ℕ)) (spec imp : FlatNet) (fault : MatchFault) → WithBox fault spec.boxes → Reports care spec imp Box fault
box_reported care spec imp fault (inl none) = inl none
box_reported care spec imp fault (inr reported) = inr (reported.0.path, reported.3, (reported.0, reported.1, reported.2, refl))

abbrev pub WithoutCare : List ℕ → MatchFault → List (List ℕ) → Type 0
WithoutCare care fault outs = (fault ≡ NoMemory) ⊎ ((fault ≡ faults.NoCare care) × IsMissing outs care)

pub care_reported : (care : List ℕ) (spec imp : FlatNet) (fault : MatchFault) → WithoutCare care fault spec.outs → Reports (Some care) spec imp Care fault
care_reported care spec imp fault (inl none) = inl none
care_reported care spec imp fault (inr reported) = inr (care, reported.0, (refl, reported.1))

-- a refusal without the care output is one with it
pub taken_out : (care : List ℕ) (spec imp : FlatNet) (place : ℕ) (fault : MatchFault) → IsFlat spec → slice_get spec.outs place ≡ Some care → MayRefuse None (without_output place spec) imp fault → MayRefuse (Some care) spec imp fault
taken_out care spec imp place fault flat occurs (inl none) = inl none
taken_out care spec imp place fault flat occurs (inr reported) = inr (((care_is_taken_out care spec imp place flat occurs).refused fault).1 reported)

abbrev pub WithoutClock : MatchFault → List Reg → Type 0
WithoutClock fault regs = (fault ≡ NoMemory) ⊎ ((r : Reg) × IsFirst HasNoClock regs r × (fault ≡ faults.ClockNotInput r.text))

pub clock_reported : (f : FlatNet) (fault : MatchFault) → WithoutClock fault f.regs → (fault ≡ NoMemory) ⊎ ((n : List ℕ) × (fault ≡ faults.ClockNotInput n) × IsFirstWithoutClock f n)
clock_reported f fault (inl none) = inl none
clock_reported f fault (inr reported) = inr (reported.0.text, reported.2, (reported.0, reported.1, refl))
