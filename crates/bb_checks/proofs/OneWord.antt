-- All that a check may say of a pair is given by one word, and has one text, but for what the expansion finds, and but for its word where
-- it may depend on the search.
use Rattle.std.proofs.Common.{◌≡◌, ◌<◌, ◌≤◌, Bool, true, List, ◌++◌, ℕ, true≢false, refl, sym, ap, ap₂, ◌∙◌, arith}
use Rattle.bb_net.specs.Conditions.{IsKnownWrong, MayBeRight, IsAlwaysWrong}
use Rattle.bb_net.specs.Completions.{HaveSmallTables}
use Rattle.bb_net.specs.Kinds.{representatives}
use Rattle.bb_net.specs.Pairs.{NetPair, IsPair}
use Rattle.bb_bits.specs.Truth.{Truth}
use Rattle.bb_tern.specs.Patterns.{PatternsAreVectors}
use Rattle.bb_sym.specs.declared.found.Found.{Found}
use Rattle.bb_sym.specs.Finds.{IsSometimesRight}
use Rattle.bb_expand.specs.declared.expanded.Expanded.TheVariants as expanded
use Rattle.bb_expand.specs.GivenUp.{NeedsMoreClauses}
use Rattle.bb_input.specs.declared.InputAnswer.{InputAnswer}
use Rattle.bb_input.specs.declared.InputAnswer.TheVariants as choices
use Rattle.bb_input.specs.Laws.{IsSameAnswer}
use Rattle.bb_nest.specs.Laws.{OneAnswer}
use Rattle.bb_checks.specs.declared.line.Evidence.TheVariants.{Vector}
use Rattle.bb_checks.specs.declared.line.CheckResult.{CheckResult}
use Rattle.bb_checks.specs.declared.line.CheckResult.TheVariants.{Error}
use Rattle.bb_options.specs.declared.options.Options.{Options}
use Rattle.bb_options.specs.declared.rung.Rung.{Rung}
use Rattle.bb_options.specs.declared.rung.Rung.TheVariants.{Ternary, Symbolic, Local, Output, Input, Expand}
use Rattle.bb_checks.specs.Reports.{result_name, details, reported_output, input_line}
use Rattle.bb_checks.specs.Rungs.{MayReport, MayHit, Hit, NoHit, MayFind, TooMany, Finding, Without, MayChoose, ChoicesTooMany, Answered, MayExpand, TooWide, ClausesTooMany, Decided, reports_error, reports_repair, reported_answer, tried}
use Rattle.bb_checks.specs.TableLines.{table_lines}
use Rattle.bb_checks.proofs.ErrorLaw.{Weakens, shows}
use Rattle.bb_checks.proofs.OneWitness.{NumbersFixBits, AreSameFound, one_hit, one_first, one_least}
use Rattle.bb_checks.proofs.StayLaw.{Stays, stays, known_not_right}

-- the laws on which this rests
pub record OneLaws : Type 0 where
  pub weakens : Weakens
  pub vectors : PatternsAreVectors
  pub bits : NumbersFixBits
  pub answers : OneAnswer

-- they are given by one word, and are both errors, both repairs or neither; and but for the expansion the same follows the line
pub record SayIsomorphic (p : NetPair) (o : Options) (r : Rung) (s t : CheckResult) : Type 0 where
  pub word : result_name s ≡ result_name t
  pub error : reports_error s ≡ reports_error t
  pub repair : reports_repair s ≡ reports_repair t
  pub text : (r ≡ Expand → ⊥) → details p o s ≡ details p o t

-- the word of the expansion does not depend on the search
abbrev pub IsFixed : NetPair → Options → Type 0
IsFixed p o = HaveSmallTables (representatives p.kinds p.imp.boxes) → NeedsMoreClauses p.spec p.imp p.kinds o.clauses → ⊥

pub above : (n m : ℕ) → n < m → m ≤ n → ⊥
above n m less more = omega (arith, less, more)

module _ (p : NetPair) (o : Options) (r : Rung) where
  -- two that are reported as these are alike where these are
  pub by_reported : (s t reported other : CheckResult) → s ≡ reported → t ≡ other → SayIsomorphic p o r reported other → SayIsomorphic p o r s t
  by_reported s t reported other same also h = record {
    word = ap result_name same ∙ h.word ∙ sym (ap result_name also);
    error = ap reports_error same ∙ h.error ∙ sym (ap reports_error also);
    repair = ap reports_repair same ∙ h.repair ∙ sym (ap reports_repair also);
    text = λ plain. ap (details p o) same ∙ h.text plain ∙ sym (ap (details p o) also);
  }

  pub say_isomorphic : (s t : CheckResult) → result_name s ≡ result_name t → reports_error s ≡ reports_error t → reports_repair s ≡ reports_repair t → ((r ≡ Expand → ⊥) → details p o s ≡ details p o t) → SayIsomorphic p o r s t
  say_isomorphic s t word error repair text = record { word = word; error = error; repair = repair; text = text }

  one_said : (s t reported : CheckResult) → s ≡ reported → t ≡ reported → SayIsomorphic p o r s t
  one_said s t reported same also = by_reported s t reported reported same also (say_isomorphic reported reported refl refl refl (λ plain. refl))

  one_found : (s t : CheckResult) (found other : Found) → s ≡ Error (Vector found) → t ≡ Error (Vector other) → AreSameFound found other → SayIsomorphic p o r s t
  one_found s t found other same also h =
      by_reported s t _ _ same also (say_isomorphic _ _ refl refl refl (λ plain. ap₂ (λ j x. reported_output p.outs j ++ input_line p.ins x) h.output h.input))

  answers_alike : (a b : InputAnswer) → IsSameAnswer a b → SayIsomorphic p o r (reported_answer a) (reported_answer b)
  answers_alike choices.Error b same = one_said _ _ _ refl (ap reported_answer same)
  answers_alike choices.Clear b same = one_said _ _ _ refl (ap reported_answer same)
  answers_alike (choices.Repair tables) b (others, is, same) = by_reported _ _ _ _ refl (ap reported_answer is) (say_isomorphic _ _ refl refl refl (λ plain. ap (table_lines o.shared (representatives p.kinds p.boxes)) same))

module _ (laws : OneLaws) (p : NetPair) (o : Options) (kept : IsPair p) where
  -- an error excludes the word that there is none
  not_none : (r : Rung) (s t : CheckResult) → MayReport p o r s → MayReport p o r t → reports_error s ≡ true → Stays t
  not_none r s t one other on = stays laws.weakens laws.vectors p o kept r t other (shows laws.weakens laws.vectors p o kept r s one on)

  finds_isomorphic : (r : Rung) (functions : List Truth) (Finds : Found → Type 0) (none : Type 0) → ((found other : Found) → Finds found → Finds other → AreSameFound found other)
      → (s t : CheckResult) → MayFind o functions Finds none s → MayFind o functions Finds none t → (reports_error s ≡ true → Stays t) → (reports_error t ≡ true → Stays s) → SayIsomorphic p o r s t
  finds_isomorphic r functions Finds none one s t (TooMany many same) (TooMany more also) st ts = one_said p o r s t _ same also
  finds_isomorphic r functions Finds none one s t (TooMany many same) (Finding few found is also) st ts = absurd (few many)
  finds_isomorphic r functions Finds none one s t (TooMany many same) (Without few is also) st ts = absurd (few many)
  finds_isomorphic r functions Finds none one s t (Finding few found is same) (TooMany many also) st ts = absurd (few many)
  finds_isomorphic r functions Finds none one s t (Finding few found is same) (Finding fewer other be also) st ts = one_found p o r s t found other same also (one found other is be)
  finds_isomorphic r functions Finds none one s t (Finding few found is same) (Without fewer be also) st ts = absurd ((st (ap reports_error same)).0 also)
  finds_isomorphic r functions Finds none one s t (Without few is same) (TooMany many also) st ts = absurd (few many)
  finds_isomorphic r functions Finds none one s t (Without few is same) (Finding fewer other be also) st ts = absurd ((ts (ap reports_error also)).0 same)
  finds_isomorphic r functions Finds none one s t (Without few is same) (Without fewer be also) st ts = one_said p o r s t _ same also

  chosen_isomorphic : (s t : CheckResult) → MayChoose p o s → MayChoose p o t → SayIsomorphic p o Input s t
  chosen_isomorphic s t (ChoicesTooMany many same) (ChoicesTooMany more also) = one_said p o Input s t _ same also
  chosen_isomorphic s t (ChoicesTooMany many same) (Answered few answer is also) = absurd (few many)
  chosen_isomorphic s t (Answered few answer is same) (ChoicesTooMany many also) = absurd (few many)
  chosen_isomorphic s t (Answered few answer is same) (Answered fewer other be also) =
      by_reported p o Input s t _ _ same also (answers_alike p o Input answer other (laws.answers p.spec p.imp p.kinds kept.imp answer other is be))

  expanded_isomorphic : (s t : CheckResult) → IsFixed p o → MayExpand p o s → MayExpand p o t → (reports_error s ≡ true → Stays t) → (reports_error t ≡ true → Stays s) → SayIsomorphic p o Expand s t
  expanded_isomorphic s t fixed (TooWide wide same) (TooWide wider also) st ts = one_said p o Expand s t _ same also
  expanded_isomorphic s t fixed (TooWide wide same) (ClausesTooMany small many also) st ts = absurd (above _ _ wide small)
  expanded_isomorphic s t fixed (TooWide wide same) (Decided small answer is also) st ts = absurd (above _ _ wide small)
  expanded_isomorphic s t fixed (ClausesTooMany small many same) (TooWide wide also) st ts = absurd (above _ _ wide small)
  expanded_isomorphic s t fixed (ClausesTooMany small many same) (ClausesTooMany smaller more also) st ts = one_said p o Expand s t _ same also
  expanded_isomorphic s t fixed (ClausesTooMany small many same) (Decided smaller answer is also) st ts = absurd (fixed small many)
  expanded_isomorphic s t fixed (Decided small answer is same) (TooWide wide also) st ts = absurd (above _ _ wide small)
  expanded_isomorphic s t fixed (Decided small answer is same) (ClausesTooMany smaller many also) st ts = absurd (fixed smaller many)
  expanded_isomorphic s t fixed (Decided small (expanded.Error vectors cnf refutation) is same) (Decided smaller (expanded.Error others clauses steps) be also) st ts =
      by_reported p o Expand s t _ _ same also (say_isomorphic p o Expand _ _ refl refl refl (λ plain. absurd (plain refl)))
  expanded_isomorphic s t fixed (Decided small (expanded.Error vectors cnf refutation) is same) (Decided smaller (expanded.Repair tables) be also) st ts =
      absurd (true≢false (sym (ap reports_repair also) ∙ (st (ap reports_error same)).1))
  expanded_isomorphic s t fixed (Decided small (expanded.Repair tables) is same) (Decided smaller (expanded.Error vectors cnf refutation) be also) st ts =
      absurd (true≢false (sym (ap reports_repair same) ∙ (ts (ap reports_error also)).1))
  expanded_isomorphic s t fixed (Decided small (expanded.Repair tables) is same) (Decided smaller (expanded.Repair others) be also) st ts = by_reported p o Expand s t _ _ same also (say_isomorphic p o Expand _ _ refl refl refl (λ plain. absurd (plain refl)))

  hits_isomorphic : (s t : CheckResult) → MayHit p o s → MayHit p o t → (reports_error s ≡ true → Stays t) → (reports_error t ≡ true → Stays s) → SayIsomorphic p o Ternary s t
  hits_isomorphic s t (Hit found j is hit same) (Hit other k be more also) st ts = one_found p o Ternary s t found other same also (one_hit p.spec p.imp (tried p o) found other j k is be hit more)
  hits_isomorphic s t (Hit found j is hit same) (NoHit right also) st ts = absurd ((st (ap reports_error same)).0 also)
  hits_isomorphic s t (NoHit right same) (Hit other k be more also) st ts = absurd ((ts (ap reports_error also)).0 same)
  hits_isomorphic s t (NoHit right same) (NoHit more also) st ts = one_said p o Ternary s t _ same also

  -- an output that is wrong is not right
  always_not_right : (x : List Bool) (j : ℕ) → IsAlwaysWrong p.spec p.imp x j → IsSometimesRight p.spec p.imp x j → ⊥
  always_not_right x j wrong (z, long, right) = wrong z long right

  pub said_isomorphic : (r : Rung) (s t : CheckResult) → (r ≡ Expand → IsFixed p o) → MayReport p o r s → MayReport p o r t → SayIsomorphic p o r s t
  said_isomorphic Ternary s t fixed one other = hits_isomorphic s t one other (not_none Ternary s t one other) (not_none Ternary t s other one)
  said_isomorphic Symbolic s t fixed one other =
      finds_isomorphic Symbolic _ _ _ (one_first laws.bits p (IsKnownWrong p.spec p.imp) (MayBeRight p.spec p.imp) (known_not_right p.spec p.imp)) s t one other (not_none Symbolic s t one other) (not_none Symbolic t s other one)
  said_isomorphic Local s t fixed one other =
      finds_isomorphic Local _ _ _ (one_first laws.bits p (IsAlwaysWrong p.spec p.imp) (IsSometimesRight p.spec p.imp) always_not_right) s t one other (not_none Local s t one other) (not_none Local t s other one)
  said_isomorphic Output s t fixed one other = finds_isomorphic Output _ _ _ (one_least laws.bits p) s t one other (not_none Output s t one other) (not_none Output t s other one)
  said_isomorphic Input s t fixed one other = chosen_isomorphic s t one other
  said_isomorphic Expand s t fixed one other = expanded_isomorphic s t (fixed refl) one other (not_none Expand s t one other) (not_none Expand t s other one)
