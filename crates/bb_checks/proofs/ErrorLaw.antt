-- What an error shows: the condition of its check, and with it those of all checks after it, the last of which is that no tables
-- agree.
use Rattle.std.proofs.Common.{◌≡◌, ◌||◌, Bool, true, false, ℕ, zero, suc, ◌+◌, List, [], ◌∷◌, ◌++◌, All, Contains, true≢false, refl, sym, ap, subst, ◌∙◌, arith}
use Rattle.std.specs.List.{list_any}
use Rattle.std.proofs.lemmas.List.Elements.{Contains-append_right}
use Rattle.bb_net.specs.Equivalence.{IsVector}
use Rattle.bb_net.specs.Conditions.{KnownWrongAmong, KnownWrongSomewhere, OneAlwaysWrong, SomeAlwaysWrong, NoChoicesSuit, NoTablesMakeEquivalent}
use Rattle.bb_net.specs.Kinds.{NoSharedTablesMakeEquivalent}
use Rattle.bb_net.specs.Netlists.{Netlist, IsNetlist}
use Rattle.bb_net.specs.Pairs.{NetPair, IsPair}
use Rattle.bb_tern.specs.Patterns.{PatternsAreVectors}
use Rattle.bb_expand.specs.declared.expanded.Expanded.TheVariants as expanded
use Rattle.bb_input.specs.declared.InputAnswer.TheVariants as choices
use Rattle.bb_checks.specs.declared.line.Line.{Line}
use Rattle.bb_checks.specs.declared.line.CheckResult.{CheckResult}
use Rattle.bb_options.specs.declared.options.Options.{Options}
use Rattle.bb_options.specs.declared.rung.Rung.{Rung}
use Rattle.bb_options.specs.declared.rung.Rung.TheVariants.{Ternary, Symbolic, Local, Output, Input, Expand}
use Rattle.bb_checks.specs.Inside.KindLaws.{KindLaws}
use Rattle.bb_checks.specs.Laws.{ErrorsExcludeTables}
use Rattle.bb_options.specs.Rungs.{rank}
use Rattle.bb_checks.specs.Rungs.{MayReport, Hit, NoHit, TooMany, Finding, Without, ChoicesTooMany, Answered, TooWide, ClausesTooMany, Decided, Climbs, Top, End, Step, reports_error, is_error, tried}

-- the laws on which this rests
pub record Weakens : Type 0 where
  pub patterns : (spec imp : Netlist) (patterns : List (List Bool)) → All (IsVector imp) patterns → KnownWrongAmong spec imp patterns → KnownWrongSomewhere spec imp
  pub known : (spec imp : Netlist) → KnownWrongSomewhere spec imp → OneAlwaysWrong spec imp
  pub one : (spec imp : Netlist) → OneAlwaysWrong spec imp → SomeAlwaysWrong spec imp
  pub some : (spec imp : Netlist) → IsNetlist imp → SomeAlwaysWrong spec imp → NoChoicesSuit spec imp
  pub choices : (spec imp : Netlist) → IsNetlist imp → NoChoicesSuit spec imp → NoTablesMakeEquivalent spec imp
  pub kinds : KindLaws

-- the condition of the check of a rank
abbrev pub Condition : NetPair → Options → ℕ → Type 0
Condition p o zero = KnownWrongAmong p.spec p.imp (tried p o)
Condition p o (suc zero) = KnownWrongSomewhere p.spec p.imp
Condition p o (suc (suc zero)) = OneAlwaysWrong p.spec p.imp
Condition p o (suc (suc (suc zero))) = SomeAlwaysWrong p.spec p.imp
Condition p o (suc (suc (suc (suc zero)))) = NoChoicesSuit p.spec p.imp
Condition p o (suc (suc (suc (suc (suc n))))) = NoSharedTablesMakeEquivalent p.spec p.imp p.kinds

abbrev pub Holds : NetPair → Options → Rung → Type 0
Holds p o r = Condition p o (rank r)

pub contained : (before : List (List Bool)) (x : List Bool) (after : List (List Bool)) → Contains (before ++ x ∷ after) x
contained before x after = Contains-append_right before (x ∷ after) x (0, omega arith, refl)

module _ (weakens : Weakens) (vectors : PatternsAreVectors) (p : NetPair) (o : Options) (kept : IsPair p) where
  -- where it holds, so does the one after it
  one_up : (n : ℕ) → Condition p o n → Condition p o (suc n)
  one_up zero h = weakens.patterns p.spec p.imp (tried p o) (vectors p.imp.inputs o.patterns o.seed) h
  one_up (suc zero) h = weakens.known p.spec p.imp h
  one_up (suc (suc zero)) h = weakens.one p.spec p.imp h
  one_up (suc (suc (suc zero))) h = weakens.some p.spec p.imp kept.imp h
  one_up (suc (suc (suc (suc zero)))) h = weakens.kinds.none p.spec p.imp p.kinds kept.beside.kinds (weakens.choices p.spec p.imp kept.imp h)
  one_up (suc (suc (suc (suc (suc n))))) h = h

  pub up : (k n m : ℕ) → m ≡ k + n → Condition p o n → Condition p o m
  up zero n m e h = subst (Condition p o) (omega (arith, e)) h
  up (suc k) n zero e h = absurd (omega (arith, e))
  up (suc k) n (suc m) e h = one_up m (up k n m (omega (arith, e)) h)

  -- no tables agree, one for each kind
  pub no_tables : (r : Rung) → Holds p o r → NoSharedTablesMakeEquivalent p.spec p.imp p.kinds
  no_tables Ternary h = up 5 0 5 refl h
  no_tables Symbolic h = up 4 1 5 refl h
  no_tables Local h = up 3 2 5 refl h
  no_tables Output h = up 2 3 5 refl h
  no_tables Input h = up 1 4 5 refl h
  no_tables Expand h = h

  not_said : {T : Type 0} (check_result other : CheckResult) → check_result ≡ other → reports_error other ≡ false → reports_error check_result ≡ true → T
  not_said check_result other same off on = absurd (true≢false (sym on ∙ ap reports_error same ∙ off))

  -- an error shows the condition of its check
  pub shows : (r : Rung) (check_result : CheckResult) → MayReport p o r check_result → reports_error check_result ≡ true → Holds p o r
  shows Ternary check_result (Hit found j is hit same) on = (found.input.items, subst (λ all. Contains all found.input.items) (sym hit.occurs) (contained hit.before found.input.items hit.after), j, hit.there, hit.wrong)
  shows Ternary check_result (NoHit right same) on = not_said check_result _ same refl on
  shows Symbolic check_result (TooMany many same) on = not_said check_result _ same refl on
  shows Symbolic check_result (Finding few found (j, is, first) same) on = (found.input.items, first.at.vector, j, first.there, first.at.holds)
  shows Symbolic check_result (Without few right same) on = not_said check_result _ same refl on
  shows Local check_result (TooMany many same) on = not_said check_result _ same refl on
  shows Local check_result (Finding few found (j, is, first) same) on = (found.input.items, first.at.vector, j, first.there, first.at.holds)
  shows Local check_result (Without few right same) on = not_said check_result _ same refl on
  shows Output check_result (TooMany many same) on = not_said check_result _ same refl on
  shows Output check_result (Finding few found (is, least) same) on = (found.input.items, least.vector, least.holds)
  shows Output check_result (Without few right same) on = not_said check_result _ same refl on
  shows Input check_result (ChoicesTooMany many same) on = not_said check_result _ same refl on
  shows Input check_result (Answered few choices.Error is same) on = is
  shows Input check_result (Answered few choices.Clear is same) on = not_said check_result _ same refl on
  shows Input check_result (Answered few (choices.Repair tables) is same) on = not_said check_result _ same refl on
  shows Expand check_result (TooWide wide same) on = not_said check_result _ same refl on
  shows Expand check_result (ClausesTooMany small many same) on = not_said check_result _ same refl on
  shows Expand check_result (Decided small (expanded.Error vectors cnf refutation) is same) on = is.none
  shows Expand check_result (Decided small (expanded.Repair tables) is same) on = not_said check_result _ same refl on

  pub said_excludes : (r : Rung) (check_result : CheckResult) → MayReport p o r check_result → reports_error check_result ≡ true → NoSharedTablesMakeEquivalent p.spec p.imp p.kinds
  said_excludes r check_result reports on = no_tables r (shows r check_result reports on)

  climb_excludes : (rungs : List Rung) (lines : List Line) → Climbs p o rungs lines → list_any is_error lines ≡ true → NoSharedTablesMakeEquivalent p.spec p.imp p.kinds
  climb_excludes [] [] Top any = absurd (true≢false (sym any))
  climb_excludes [] (line ∷ more) climb any = elim climb [ ]
  climb_excludes (r ∷ rest) [] climb any = elim climb [ ]
  climb_excludes (r ∷ rest) (line ∷ []) (End is reports last) any = said_excludes r line.check_result reports (only (is_error line) any)
    where
      only : (b : Bool) → (b || false) ≡ true → b ≡ true
      only true e = refl
      only false e = e
  climb_excludes (r ∷ rest) (line ∷ more) (Step is reports on afterwards) any = by (is_error line) refl any (climb_excludes rest more afterwards)
    where
      by : (b : Bool) → is_error line ≡ b → (b || list_any is_error more) ≡ true → (list_any is_error more ≡ true → NoSharedTablesMakeEquivalent p.spec p.imp p.kinds) → NoSharedTablesMakeEquivalent p.spec p.imp p.kinds
      by true e any rest = said_excludes r line.check_result reports e
      by false e any rest = rest any

pub errors_exclude_tables : Weakens → PatternsAreVectors → ErrorsExcludeTables
errors_exclude_tables weakens vectors p o lines kept climb any = climb_excludes weakens vectors p o kept _ lines climb any
