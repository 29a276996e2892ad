-- Each vector that checks find shows a mistake: a known bit is the bit whatever the boxes give.
use Rattle.std.proofs.Common.{◌≡◌, ℕ, Bool, List, Contains, None, Some, sym, subst, ◌∙◌}
use Rattle.std.proofs.lemmas.List.Elements.{All-contains}
use Rattle.std.specs.Prelude.{slice_index}
use Rattle.bb_net.specs.Equivalence.{IsVector, IsOutput}
use Rattle.bb_net.specs.Conditions.{IsKnownWrong, IsAlwaysWrong, AlwaysSomeWrongAt}
use Rattle.bb_net.specs.Netlists.{Netlist}
use Rattle.bb_net.specs.Pairs.{NetPair}
use Rattle.bb_net.specs.Ternary.{tern, tern_of}
use Rattle.bb_net.specs.Values.{bit_of, value_of, free_bit}
use Rattle.bb_tern.specs.Patterns.{PatternsAreVectors}
use Rattle.bb_sym.specs.declared.found.Found.{Found}
use Rattle.bb_expand.specs.declared.expanded.Expanded.TheVariants as expanded
use Rattle.bb_input.specs.declared.InputAnswer.TheVariants as choices
use Rattle.bb_checks.specs.declared.line.CheckResult.{CheckResult}
use Rattle.bb_options.specs.declared.options.Options.{Options}
use Rattle.bb_options.specs.declared.rung.Rung.{Rung}
use Rattle.bb_options.specs.declared.rung.Rung.TheVariants.{Ternary, Symbolic, Local, Output, Input, Expand}
use Rattle.bb_checks.specs.Rungs.{MayReport, Hit, NoHit, TooMany, Finding, Without, ChoicesTooMany, Answered, TooWide, ClausesTooMany, Decided, tried}
use Rattle.bb_checks.specs.Laws.ShownVectors.{IsWrongAt, IsMistake, CheckResultIsMistake, FoundVectorsAreMistakes}
use Rattle.bb_checks.proofs.ErrorLaw.{contained}
use Rattle.bb_checks.proofs.ReportedLaw.{climb_each}

-- the law of values in three values on which this rests
abbrev KnownIsValue : Type 0
KnownIsValue = (net : Netlist) (x : List Bool) (box : ℕ → ℕ → List Bool → Bool) (place : ℕ) (bit : Bool) → tern_of (tern net x) place ≡ Some bit → bit_of (value_of net x box) place ≡ bit

module _ (known : KnownIsValue) (vectors : PatternsAreVectors) (p : NetPair) (o : Options) where
  stays_wrong : (x : List Bool) (j : ℕ) → IsKnownWrong p.spec p.imp x j → IsAlwaysWrong p.spec p.imp x j
  stays_wrong x j (bit, is, wrong) = λ z long same. wrong (sym same ∙ known p.imp x (free_bit p.imp.boxes z) (slice_index p.imp.outs j) bit is)

  at_output : (found : Found) (j : ℕ) → found.output ≡ Some j → IsVector p.imp found.input.items → IsOutput p.imp j → IsAlwaysWrong p.spec p.imp found.input.items j → IsMistake p found
  at_output found j is vector there wrong = record { vector = vector; wrong = subst (IsWrongAt p found.input.items) (sym is) (there, wrong) }

  somewhere : (found : Found) → found.output ≡ None → IsVector p.imp found.input.items → AlwaysSomeWrongAt p.spec p.imp found.input.items → IsMistake p found
  somewhere found is vector wrong = record { vector = vector; wrong = subst (IsWrongAt p found.input.items) (sym is) wrong }

  said_mistake : (r : Rung) (check_result : CheckResult) → MayReport p o r check_result → CheckResultIsMistake p check_result
  said_mistake Ternary check_result (Hit found j is hit same) =
      let has = subst (λ all. Contains all found.input.items) (sym hit.occurs) (contained hit.before found.input.items hit.after) in
      let vector = All-contains (IsVector p.imp) (tried p o) found.input.items (vectors p.imp.inputs o.patterns o.seed) has in
      subst (CheckResultIsMistake p) (sym same) (at_output found j is vector hit.there (stays_wrong found.input.items j hit.wrong))
  said_mistake Ternary check_result (NoHit right same) = subst (CheckResultIsMistake p) (sym same) tt
  said_mistake Symbolic check_result (TooMany many same) = subst (CheckResultIsMistake p) (sym same) tt
  said_mistake Symbolic check_result (Finding few found (j, is, first) same) =
      subst (CheckResultIsMistake p) (sym same) (at_output found j is first.at.vector first.there (stays_wrong found.input.items j first.at.holds))
  said_mistake Symbolic check_result (Without few right same) = subst (CheckResultIsMistake p) (sym same) tt
  said_mistake Local check_result (TooMany many same) = subst (CheckResultIsMistake p) (sym same) tt
  said_mistake Local check_result (Finding few found (j, is, first) same) = subst (CheckResultIsMistake p) (sym same) (at_output found j is first.at.vector first.there first.at.holds)
  said_mistake Local check_result (Without few right same) = subst (CheckResultIsMistake p) (sym same) tt
  said_mistake Output check_result (TooMany many same) = subst (CheckResultIsMistake p) (sym same) tt
  said_mistake Output check_result (Finding few found (is, least) same) = subst (CheckResultIsMistake p) (sym same) (somewhere found is least.vector least.holds)
  said_mistake Output check_result (Without few right same) = subst (CheckResultIsMistake p) (sym same) tt
  said_mistake Input check_result (ChoicesTooMany many same) = subst (CheckResultIsMistake p) (sym same) tt
  said_mistake Input check_result (Answered few choices.Error is same) = subst (CheckResultIsMistake p) (sym same) tt
  said_mistake Input check_result (Answered few choices.Clear is same) = subst (CheckResultIsMistake p) (sym same) tt
  said_mistake Input check_result (Answered few (choices.Repair tables) is same) = subst (CheckResultIsMistake p) (sym same) tt
  said_mistake Expand check_result (TooWide wide same) = subst (CheckResultIsMistake p) (sym same) tt
  said_mistake Expand check_result (ClausesTooMany small many same) = subst (CheckResultIsMistake p) (sym same) tt
  said_mistake Expand check_result (Decided small (expanded.Error all cnf refutation) is same) = subst (CheckResultIsMistake p) (sym same) tt
  said_mistake Expand check_result (Decided small (expanded.Repair tables) is same) = subst (CheckResultIsMistake p) (sym same) tt

pub found_vectors_are_mistakes : KnownIsValue → PatternsAreVectors → FoundVectorsAreMistakes
found_vectors_are_mistakes known vectors p o lines climb = climb_each p o (CheckResultIsMistake p) (said_mistake known vectors p o) _ lines climb
