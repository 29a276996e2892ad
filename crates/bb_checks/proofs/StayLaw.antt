-- After an error no check says that there is none, and none gives tables: its condition would hold, and it does not.
use Rattle.std.proofs.Common.{◌≡◌, ◌<◌, ◌-◌, ℕ, suc, Bool, true, false, List, [], ◌∷◌, ◌++◌, All, AllPairs, refl, sym, subst, arith, rules}
use Rattle.std.specs.Prelude.{IfSome}
use Rattle.std.proofs.lemmas.List.Elements.{All-nil, All-cons, All-head, All-tail}
use Rattle.std.proofs.lemmas.List.Kept.{AllPairs-filter}
use Rattle.bb_lemmas.proofs.Apart.{pairs_tail}
use Rattle.bb_net.specs.Equivalence.{wanted_bit}
use Rattle.bb_net.specs.Conditions.{MayBeRight, IsKnownWrong}
use Rattle.bb_net.specs.Netlists.{Netlist}
use Rattle.bb_net.specs.Pairs.{NetPair, IsPair}
use Rattle.bb_tern.specs.Patterns.{PatternsAreVectors}
use Rattle.bb_expand.specs.declared.expanded.Expanded.TheVariants as expanded
use Rattle.bb_input.specs.declared.InputAnswer.TheVariants as choices
use Rattle.bb_checks.specs.declared.line.Line.{Line}
use Rattle.bb_checks.specs.declared.line.CheckResult.{CheckResult}
use Rattle.bb_checks.specs.declared.line.CheckResult.TheVariants.{Nothing}
use Rattle.bb_options.specs.declared.options.Options.{Options}
use Rattle.bb_options.specs.declared.rung.Rung.{Rung}
use Rattle.bb_options.specs.declared.rung.Rung.TheVariants.{Ternary, Symbolic, Local, Output, Input, Expand}
use Rattle.bb_checks.specs.Laws.{ErrorsStay}
use Rattle.bb_options.specs.Rungs.{rank, all_rungs, requested_rungs, is_requested}
use Rattle.bb_checks.specs.Rungs.{MayReport, Hit, NoHit, TooMany, Finding, Without, ChoicesTooMany, Answered, TooWide, ClausesTooMany, Decided, Climbs, Top, End, Step, reports_repair, is_error}
use Rattle.bb_checks.proofs.ErrorLaw.{Weakens, Holds, shows, no_tables, up}
use Rattle.bb_checks.proofs.ShownBoxes.{apart_shared}

-- a known bit that is wrong is not right
pub known_not_right : (spec imp : Netlist) (x : List Bool) (j : ℕ) → IsKnownWrong spec imp x j → MayBeRight spec imp x j → ⊥
known_not_right spec imp x j (bit, known, wrong) right = wrong (subst (λ v. IfSome v (λ b. wanted_bit spec x j ≡ b)) known right)

pub first_rises : {X : Type 0} (R : X → X → Type 0) (x : X) (xs : List X) → AllPairs R (x ∷ xs) → All (R x) xs
first_rises R x xs pairs k d within = pairs 0 (suc k) d (omega arith) (omega (arith, within))

-- what a check says where its condition holds: neither that there is none, nor tables
abbrev pub Stays : CheckResult → Type 0
Stays check_result = (check_result ≡ Nothing → ⊥) × (reports_repair check_result ≡ false)

other : (check_result reported : CheckResult) → check_result ≡ reported → Stays reported → Stays check_result
other check_result reported same h = subst Stays (sym same) h

module _ (weakens : Weakens) (vectors : PatternsAreVectors) (p : NetPair) (o : Options) (kept : IsPair p) where
  pub stays : (r : Rung) (check_result : CheckResult) → MayReport p o r check_result → Holds p o r → Stays check_result
  stays Ternary check_result (Hit found j is hit same) h = other check_result _ same ((λ e. cc e), refl)
  stays Ternary check_result (NoHit right same) (x, has, j, there, wrong) = absurd (known_not_right p.spec p.imp x j wrong (right x has j there))
  stays Symbolic check_result (TooMany many same) h = other check_result _ same ((λ e. cc e), refl)
  stays Symbolic check_result (Finding few found is same) h = other check_result _ same ((λ e. cc e), refl)
  stays Symbolic check_result (Without few right same) (x, vector, j, there, wrong) = absurd (known_not_right p.spec p.imp x j wrong (right x vector j there))
  stays Local check_result (TooMany many same) h = other check_result _ same ((λ e. cc e), refl)
  stays Local check_result (Finding few found is same) h = other check_result _ same ((λ e. cc e), refl)
  stays Local check_result (Without few right same) (x, vector, j, there, wrong) = let found = right x vector j there in absurd (wrong found.0 found.1 found.2)
  stays Output check_result (TooMany many same) h = other check_result _ same ((λ e. cc e), refl)
  stays Output check_result (Finding few found is same) h = other check_result _ same ((λ e. cc e), refl)
  stays Output check_result (Without few right same) (x, vector, wrong) =
      let found = right x vector in
      let at = wrong found.0 found.1 in
      absurd (at.2 (found.2 at.0 at.1))
  stays Input check_result (ChoicesTooMany many same) h = other check_result _ same ((λ e. cc e), refl)
  stays Input check_result (Answered few choices.Error is same) h = other check_result _ same ((λ e. cc e), refl)
  stays Input check_result (Answered few choices.Clear is same) h = absurd (h is.0)
  stays Input check_result (Answered few (choices.Repair tables) is same) h =
      let shared = apart_shared weakens.kinds p.spec p.imp p.kinds tables.items kept.beside.kinds is.0.nested.apart is.1.completion in
      absurd (no_tables weakens vectors p o kept Input h tables.items shared.fit shared.agree)
  stays Expand check_result (TooWide wide same) h = other check_result _ same ((λ e. cc e), refl)
  stays Expand check_result (ClausesTooMany small many same) h = other check_result _ same ((λ e. cc e), refl)
  stays Expand check_result (Decided small (expanded.Error vectors cnf refutation) is same) h = other check_result _ same ((λ e. cc e), refl)
  stays Expand check_result (Decided small (expanded.Repair tables) is same) h = absurd (h tables.items is.fit is.agree)

  later : (r s : Rung) → rank r < rank s → Holds p o r → Holds p o s
  later r s l h = up weakens vectors p o kept (rank s - rank r) (rank r) (rank s) (omega (arith, l)) h

  -- what all further lines say
  all_stay : (r : Rung) (rest : List Rung) (more : List Line) → All (λ s. rank r < rank s) rest → Climbs p o rest more → Holds p o r → All (λ (l : Line). Stays l.check_result) more
  all_stay r [] [] above Top h = All-nil _
  all_stay r [] (line ∷ more) above climb h = elim climb [ ]
  all_stay r (s ∷ rest) [] above climb h = elim climb [ ]
  all_stay r (s ∷ rest) (line ∷ []) above (End is reports last) h =
      All-cons (λ (l : Line). Stays l.check_result) line [] (stays s line.check_result reports (later r s (All-head (λ x. rank r < rank x) s rest above) h)) (All-nil _)
  all_stay r (s ∷ rest) (line ∷ more) above (Step is reports on afterwards) h =
      All-cons (λ (l : Line). Stays l.check_result) line more (stays s line.check_result reports (later r s (All-head (λ x. rank r < rank x) s rest above) h)) (all_stay r rest more (All-tail (λ x. rank r < rank x) s rest above) afterwards h)

  stay : (rungs : List Rung) (before : List Line) (line : Line) (after : List Line) → AllPairs (λ r s. rank r < rank s) rungs → Climbs p o rungs (before ++ line ∷ after) → is_error line ≡ true
      → All (λ (l : Line). Stays l.check_result) after
  stay [] [] line after rise climb on = elim climb [ ]
  stay [] (first ∷ before) line after rise climb on = elim climb [ ]
  stay (r ∷ rest) [] line [] rise climb on = All-nil (λ (l : Line). Stays l.check_result)
  stay (r ∷ rest) [] line (next ∷ after) rise (Step is reports goes afterwards) on =
      all_stay r rest (next ∷ after) (first_rises (λ r s. rank r < rank s) r rest rise) afterwards (shows weakens vectors p o kept r line.check_result reports on)
  stay (r ∷ rest) (first ∷ []) line after rise (Step is reports goes afterwards) on = stay rest [] line after (pairs_tail (λ r s. rank r < rank s) r rest rise) afterwards on
  stay (r ∷ rest) (first ∷ second ∷ before) line after rise (Step is reports goes afterwards) on = stay rest (second ∷ before) line after (pairs_tail (λ r s. rank r < rank s) r rest rise) afterwards on

rungs_rise : AllPairs (λ r s. rank r < rank s) all_rungs
rungs_rise = search rules

-- checks that are asked for are in their order
pub requested_rise : (o : Options) → AllPairs (λ r s. rank r < rank s) (requested_rungs o)
requested_rise o = AllPairs-filter (λ r s. rank r < rank s) (is_requested o) all_rungs rungs_rise

pub errors_stay : Weakens → PatternsAreVectors → ErrorsStay
errors_stay weakens vectors p o before after line kept climb on =
    stay weakens vectors p o kept (requested_rungs o) before line after (requested_rise o) climb on
