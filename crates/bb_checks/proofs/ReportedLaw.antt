-- What checks find can be given by the names of the pair.
use Rattle.std.proofs.Common.{◌≡◌, ℕ, ◌<◌, List, [], ◌∷◌, length, All, Contains, None, Some, IfSome, refl, sym, subst, ◌∙◌, arith}
use Rattle.std.proofs.lemmas.List.Elements.{All-nil, All-cons, All-contains, Contains-append_right}
use Rattle.std.proofs.lemmas.Slice.Zip.{AllZip-long}
use Rattle.bb_bits.specs.Tables.{TableBits}
use Rattle.bb_net.specs.Kinds.{AreSharedCompletion, representatives}
use Rattle.bb_net.specs.Pairs.{NetPair, IsPair, NamesPins}
use Rattle.bb_tern.specs.Patterns.{PatternsAreVectors}
use Rattle.bb_sym.specs.declared.found.Found.{Found}
use Rattle.bb_expand.specs.declared.expanded.Expanded.TheVariants as expanded
use Rattle.bb_input.specs.declared.InputAnswer.TheVariants as choices
use Rattle.bb_checks.specs.declared.line.Line.{Line}
use Rattle.bb_checks.specs.declared.line.CheckResult.{CheckResult}
use Rattle.bb_options.specs.declared.options.Options.{Options}
use Rattle.bb_options.specs.declared.rung.Rung.{Rung}
use Rattle.bb_options.specs.declared.rung.Rung.TheVariants.{Ternary, Symbolic, Local, Output, Input, Expand}
use Rattle.bb_checks.specs.Inside.KindLaws.{KindLaws}
use Rattle.bb_checks.specs.Laws.{ClimbsAreReported}
use Rattle.bb_checks.specs.Rungs.{MayReport, Hit, NoHit, TooMany, Finding, Without, ChoicesTooMany, Answered, TooWide, ClausesTooMany, Decided, Climbs, Top, End, Step, ResultCanBeReported, CanBeReported, TablesCanBeReported, tried}
use Rattle.bb_checks.proofs.ShownBoxes.{named_shown, names_each, apart_shared}

module _ (kinds : KindLaws) (vectors : PatternsAreVectors) (p : NetPair) (o : Options) (kept : IsPair p) where
  with_output : (found : Found) (j : ℕ) → found.output ≡ Some j → j < length p.imp.outs → length found.input.items ≡ p.imp.inputs → CanBeReported p found
  with_output found j is there long = record {
    output = subst (λ reported. IfSome reported (λ j. j < length p.outs)) (sym is) (omega (arith, there, kept.beside.outs_named));
    input = long ∙ sym kept.beside.ins_named;
  }

  without_output : (found : Found) → found.output ≡ None → length found.input.items ≡ p.imp.inputs → CanBeReported p found
  without_output found is long = record {
    output = subst (λ reported. IfSome reported (λ j. j < length p.outs)) (sym is) tt;
    input = long ∙ sym kept.beside.ins_named;
  }

  tables_reported : (tables : List TableBits) → AreSharedCompletion p.spec p.imp p.kinds tables → TablesCanBeReported p tables
  tables_reported tables complete =
      let named = named_shown kinds p kept in
      let long = AllZip-long NamesPins (representatives p.kinds p.boxes) (representatives p.kinds p.imp.boxes) named in
      let count : length tables ≡ length (representatives p.kinds p.boxes) = complete.fit.count ∙ long in
      record {
        count = count;
        outputs = λ k there. complete.fit.outputs k (omega (arith, there, complete.fit.count)) ∙ sym (names_each (representatives p.kinds p.boxes) (representatives p.kinds p.imp.boxes) named k (omega (arith, there, count))).outs;
      }

  said_reported : (r : Rung) (check_result : CheckResult) → MayReport p o r check_result → ResultCanBeReported p check_result
  said_reported Ternary check_result (Hit found j is hit same) =
      let has : Contains (tried p o) found.input.items = subst (λ all. Contains all found.input.items) (sym hit.occurs) (Contains-append_right hit.before (found.input.items ∷ hit.after) found.input.items (0, omega arith, refl)) in
      subst (ResultCanBeReported p) (sym same) (with_output found j is hit.there (All-contains (λ x. length x ≡ p.imp.inputs) (tried p o) found.input.items (vectors p.imp.inputs o.patterns o.seed) has))
  said_reported Ternary check_result (NoHit right same) = subst (ResultCanBeReported p) (sym same) tt
  said_reported Symbolic check_result (TooMany many same) = subst (ResultCanBeReported p) (sym same) tt
  said_reported Symbolic check_result (Finding few found (j, is, first) same) = subst (ResultCanBeReported p) (sym same) (with_output found j is first.there first.at.vector)
  said_reported Symbolic check_result (Without few right same) = subst (ResultCanBeReported p) (sym same) tt
  said_reported Local check_result (TooMany many same) = subst (ResultCanBeReported p) (sym same) tt
  said_reported Local check_result (Finding few found (j, is, first) same) = subst (ResultCanBeReported p) (sym same) (with_output found j is first.there first.at.vector)
  said_reported Local check_result (Without few right same) = subst (ResultCanBeReported p) (sym same) tt
  said_reported Output check_result (TooMany many same) = subst (ResultCanBeReported p) (sym same) tt
  said_reported Output check_result (Finding few found (is, least) same) = subst (ResultCanBeReported p) (sym same) (without_output found is least.vector)
  said_reported Output check_result (Without few right same) = subst (ResultCanBeReported p) (sym same) tt
  said_reported Input check_result (ChoicesTooMany many same) = subst (ResultCanBeReported p) (sym same) tt
  said_reported Input check_result (Answered few choices.Error is same) = subst (ResultCanBeReported p) (sym same) tt
  said_reported Input check_result (Answered few choices.Clear is same) = subst (ResultCanBeReported p) (sym same) tt
  said_reported Input check_result (Answered few (choices.Repair tables) is same) = subst (ResultCanBeReported p) (sym same) (tables_reported tables.items (apart_shared kinds p.spec p.imp p.kinds tables.items kept.beside.kinds is.0.nested.apart is.1.completion))
  said_reported Expand check_result (TooWide wide same) = subst (ResultCanBeReported p) (sym same) tt
  said_reported Expand check_result (ClausesTooMany small many same) = subst (ResultCanBeReported p) (sym same) tt
  said_reported Expand check_result (Decided small (expanded.Error vectors cnf refutation) is same) = subst (ResultCanBeReported p) (sym same) tt
  said_reported Expand check_result (Decided small (expanded.Repair tables) is same) = subst (ResultCanBeReported p) (sym same) (tables_reported tables.items is)

-- what holds of all that checks may say holds of each line of a climb
module _ (p : NetPair) (o : Options) (P : CheckResult → Type 0) (each : (r : Rung) (check_result : CheckResult) → MayReport p o r check_result → P check_result) where
  pub climb_each : (rungs : List Rung) (lines : List Line) → Climbs p o rungs lines → All (λ (line : Line). P line.check_result) lines
  climb_each [] [] Top = All-nil _
  climb_each [] (line ∷ more) climb = elim climb [ ]
  climb_each (r ∷ rest) [] climb = elim climb [ ]
  climb_each (r ∷ rest) (line ∷ []) (End is reports last) = All-cons (λ (line : Line). P line.check_result) line [] (each r line.check_result reports) (All-nil _)
  climb_each (r ∷ rest) (line ∷ more) (Step is reports on afterwards) = All-cons (λ (line : Line). P line.check_result) line more (each r line.check_result reports) (climb_each rest more afterwards)

pub climbs_are_reported : KindLaws → PatternsAreVectors → ClimbsAreReported
climbs_are_reported kinds vectors p o lines kept climb = climb_each p o (ResultCanBeReported p) (said_reported kinds vectors p o kept) _ lines climb
