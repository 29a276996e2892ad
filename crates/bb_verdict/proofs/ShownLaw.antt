-- What checks find at a vector is a mistake of the two designs, and its text is that of the vector.
use Rattle.std.proofs.Common.{◌≡◌, ◌∷◌, ◌++◌, ℕ, Bool, true, false, if◌then◌else◌, List, [], map, Option, None, Some, refl, sym, ap, ap₂, subst, ◌∙◌, arith, true≢false}
use Rattle.std.specs.Prelude.{All, Contains, codes, slice_get, slice_index_or, vec_items}
use Rattle.std.specs.List.{flat_map, list_any}
use Rattle.std.proofs.lemmas.List.{append-nil, get_or-map}
use Rattle.std.proofs.lemmas.List.Elements.{All-cons, All-head, All-nil, All-tail, Contains-append_left, Contains-append_right, Contains-get_or}
use Rattle.bb_lemmas.proofs.Members.{any_there, contains-map}
use Rattle.std.proofs.lemmas.Option.{get_or_from_slice_get, slice_get_within}
use Rattle.bb_equiv.specs.DesignEquivalence.{IsPairFor}
use Rattle.bb_equiv.specs.Laws.Mistakes.{FailingVectorsAreMistakes, outputs_of, PairsAreNamed, WrongOutputsAreMistakes, WrongVectorsAreMistakes}
use Rattle.bb_equiv.specs.Mistakes.{inputs_of, IsMistakeAt}
use Rattle.bb_bits.specs.Tables.{TableBits}
use Rattle.bb_bits.specs.Truth.{Truth}
use Rattle.bb_design.specs.Inside.Allowed.{IsAllowed}
use Rattle.bb_design.specs.Hierarchy.{Design}
use Rattle.bb_design.specs.Worlds.{Vector}
use Rattle.bb_expand.specs.declared.expanded.Expanded.TheVariants as expanded
use Rattle.bb_expand.specs.Expanded.{IsError}
use Rattle.bb_expand.specs.Laws.{RefutationsShowVectors}
use Rattle.bb_input.specs.declared.InputAnswer.TheVariants as choices
use Rattle.bb_match.specs.Pairing.{input_text, output_name}
use Rattle.bb_net.specs.Equivalence.{IsVector}
use Rattle.bb_net.specs.CutPoints.{CutOutput}
use Rattle.bb_net.specs.declared.pair.OutName.{OutName}
use Rattle.bb_net.specs.Pairs.{NetPair}
use Rattle.bb_options.specs.declared.options.Options.{Options}
use Rattle.bb_options.specs.declared.rung.Rung.{Rung}
use Rattle.bb_options.specs.declared.rung.Rung.TheVariants.{Ternary, Symbolic, Local, Output, Input, Expand}
use Rattle.bb_options.specs.Rungs.{requested_rungs}
use Rattle.bb_checks.specs.declared.line.Evidence.TheVariants as evidence
use Rattle.bb_checks.specs.declared.line.Line.{Line}
use Rattle.bb_checks.specs.declared.verdict.Verdict.{Verdict}
use Rattle.bb_checks.specs.declared.verdict.Verdict.TheVariants as verdicts
use Rattle.bb_checks.specs.declared.line.CheckResult.{CheckResult}
use Rattle.bb_checks.specs.declared.line.CheckResult.TheVariants.{Error, Nothing, Repair, Nodes, Clauses, Wide}
use Rattle.bb_checks.specs.Laws.{ErrorsExcludeTables, GivenTablesMakeEquivalent}
use Rattle.bb_checks.specs.Reports.{GivesTables, evidence_text, input_line, check_line_text, output_line, proof_text, report_text, status_of, reported_output, verdict_line, verdict_of}
use Rattle.bb_checks.specs.Rungs.{Answered, ChoicesTooMany, ClausesTooMany, Climbs, Decided, End, Finding, Hit, MayFind, MayReport, NoHit, Step, TooMany, TooWide, Top, Without, is_error, is_repair}
use Rattle.bb_checks.specs.Laws.ShownVectors.{FoundVectorsAreMistakes, IsWrongAt, CheckResultIsMistake}
use Rattle.bb_sym.specs.declared.found.Found.{Found}
use Rattle.bb_verdict.specs.declared.requested.TextComparison.{TextComparison}
use Rattle.bb_verdict.specs.Laws.TextAnswers.{ErrorsAreShown}
use Rattle.bb_verdict.specs.Laws.TextPairs.{DesignsAreAllowed}
use Rattle.bb_verdict.specs.ShownMistakes.{AtVector, ByChoices, ByRefutation, NoError, ShowsError, check_line, no_verdict, vector_text}
use Rattle.bb_verdict.specs.TextAnswers.{Refused, Judged}
use Rattle.bb_verdict.proofs.AnswerLaws.{status_error}
use Rattle.bb_verdict.proofs.FollowLaws.{nothing_follows}
use Rattle.bb_verdict.proofs.TextPairLaws.{are_read_as}

-- that no choices suit is said by the check by choices alone, and a refutation by the expansion, over whose vectors it is
abbrev IsOfCheck : NetPair → Options → Rung → CheckResult → Type 0
IsOfCheck p o r (Error (evidence.Vector found)) = Unit {0}
IsOfCheck p o r (Error evidence.NoChoices) = r ≡ Input
IsOfCheck p o r (Error (evidence.Refutation proof)) = (r ≡ Expand) × IsError p.spec p.imp p.kinds o.clauses (map vec_items proof.vectors.items) proof.cnf proof.refutation.steps.items
IsOfCheck p o r Nothing = Unit {0}
IsOfCheck p o r (Repair tables) = Unit {0}
IsOfCheck p o r Nodes = Unit {0}
IsOfCheck p o r Clauses = Unit {0}
IsOfCheck p o r Wide = Unit {0}

module _ (p : NetPair) (o : Options) where
  found_of : (r : Rung) (functions : List Truth) (Finds : Found → Type 0) (none : Type 0) (check_result : CheckResult) → MayFind o functions Finds none check_result → IsOfCheck p o r check_result
  found_of r functions Finds none check_result (TooMany many same) = subst (IsOfCheck p o r) (sym same) tt
  found_of r functions Finds none check_result (Finding few found is same) = subst (IsOfCheck p o r) (sym same) tt
  found_of r functions Finds none check_result (Without few right same) = subst (IsOfCheck p o r) (sym same) tt

  of_check : (r : Rung) (check_result : CheckResult) → MayReport p o r check_result → IsOfCheck p o r check_result
  of_check Ternary check_result (Hit found j is hit same) = subst (IsOfCheck p o Ternary) (sym same) tt
  of_check Ternary check_result (NoHit right same) = subst (IsOfCheck p o Ternary) (sym same) tt
  of_check Symbolic check_result may = found_of Symbolic _ _ _ check_result may
  of_check Local check_result may = found_of Local _ _ _ check_result may
  of_check Output check_result may = found_of Output _ _ _ check_result may
  of_check Input check_result (ChoicesTooMany many same) = subst (IsOfCheck p o Input) (sym same) tt
  of_check Input check_result (Answered few choices.Error is same) = subst (IsOfCheck p o Input) (sym same) refl
  of_check Input check_result (Answered few choices.Clear is same) = subst (IsOfCheck p o Input) (sym same) tt
  of_check Input check_result (Answered few (choices.Repair tables) is same) = subst (IsOfCheck p o Input) (sym same) tt
  of_check Expand check_result (TooWide wide same) = subst (IsOfCheck p o Expand) (sym same) tt
  of_check Expand check_result (ClausesTooMany small many same) = subst (IsOfCheck p o Expand) (sym same) tt
  of_check Expand check_result (Decided small (expanded.Error all cnf refutation) is same) = subst (IsOfCheck p o Expand) (sym same) (refl, is)
  of_check Expand check_result (Decided small (expanded.Repair tables) is same) = subst (IsOfCheck p o Expand) (sym same) tt

  at_rung : (r : Rung) (line : Line) → line.rung ≡ r → MayReport p o r line.check_result → IsOfCheck p o line.rung line.check_result
  at_rung r line same may = subst (λ z. IsOfCheck p o z line.check_result) (sym same) (of_check r line.check_result may)

  each_of_check : (rungs : List Rung) (lines : List Line) → Climbs p o rungs lines → All (λ (line : Line). IsOfCheck p o line.rung line.check_result) lines
  each_of_check [] [] Top = All-nil (λ (line : Line). IsOfCheck p o line.rung line.check_result)
  each_of_check [] (line ∷ more) climb = elim climb [ ]
  each_of_check (r ∷ rungs) [] climb = elim climb [ ]
  each_of_check (r ∷ rungs) (line ∷ []) (End at may ends) =
      All-cons (λ (line : Line). IsOfCheck p o line.rung line.check_result) line [] (at_rung r line at may) (All-nil (λ (line : Line). IsOfCheck p o line.rung line.check_result))
  each_of_check (r ∷ rungs) (line ∷ more) (Step at may ends rest) =
      All-cons (λ (line : Line). IsOfCheck p o line.rung line.check_result) line more (at_rung r line at may) (each_of_check rungs more rest)

-- what counts as a name after the last output
abbrev no_name : OutName
no_name = record { next = false; text = [] }

module _ (at_outputs : WrongOutputsAreMistakes) (at_vectors : WrongVectorsAreMistakes) (named : PairsAreNamed) (failing : FailingVectorsAreMistakes) (fail : RefutationsShowVectors)
    (requested : TextComparison) (s i : Design) (p : NetPair) (s_allowed : IsAllowed s) (i_allowed : IsAllowed i) (pair : IsPairFor requested.care requested.options.shared s i p) where
  abbrev care : Option (List ℕ)
  care = requested.care

  abbrev one : Bool
  one = requested.options.shared

  abbrev o : Options
  o = requested.options

  abbrev IsShown : List Bool → Option ℕ → Type 0
  IsShown bits j = (x : Vector) × (reported : Option CutOutput) × IsMistakeAt care s i x reported × (reported_output p.outs j ++ input_line p.ins bits ≡ vector_text s x reported)

  inputs_shown : (x : Vector) (bits : List Bool) → map x (inputs_of s) ≡ bits → input_line p.ins bits ≡ input_line (map input_text (inputs_of s)) (map x (inputs_of s))
  inputs_shown x bits same = ap₂ input_line (named care one s i p pair).ins (sym same)

  output_shown : (j : ℕ) (out : CutOutput) → slice_get (outputs_of care s) j ≡ Some out → reported_output p.outs (Some j) ≡ output_line (output_name out)
  output_shown j out at = ap output_line (ap (λ names. slice_index_or names j no_name) (named care one s i p pair).outs
      ∙ get_or-map output_name (outputs_of care s) j out no_name (slice_get_within (outputs_of care s) j out at) ∙ ap output_name (get_or_from_slice_get (outputs_of care s) j out out at))

  vector_shown : (bits : List Bool) (j : Option ℕ) → IsVector p.imp bits → IsWrongAt p bits j → IsShown bits j
  vector_shown bits None vector wrong =
      let (x, same, mistake) = at_vectors care one s i p s_allowed i_allowed pair bits vector wrong in
      (x, None, mistake, inputs_shown x bits same)
  vector_shown bits (Some j) vector (there, wrong) =
      let (x, out, same, at, mistake) = at_outputs care one s i p s_allowed i_allowed pair bits j vector there wrong in
      (x, Some out, mistake, ap₂ ◌++◌ (output_shown j out at) (inputs_shown x bits same))

  -- the line of a check shows its error, whatever the check says but tables
  line_shown : (r : Rung) (check_result : CheckResult) → CheckResultIsMistake p check_result → IsOfCheck p o r check_result → is_repair (record { rung = r; check_result = check_result }) ≡ false
      → ShowsError requested s i (check_line_text p o (record { rung = r; check_result = check_result }))
  line_shown r (Error (evidence.Vector found)) mistake of none =
      let (x, named, wrong, same) = vector_shown found.input.items found.output mistake.vector mistake.wrong in
      AtVector r x named wrong (ap (λ z. check_line r (codes "error") ++ z) same)
  line_shown r (Error evidence.NoChoices) mistake of none = ByChoices (append-nil (check_line r (codes "error")) ∙ ap (λ z. check_line z (codes "error")) of)
  line_shown r (Error (evidence.Refutation proof)) mistake of none =
      ByRefutation proof (failing care one s i p s_allowed i_allowed pair (map vec_items proof.vectors.items) of.1.whole
      (fail p.spec p.imp p.kinds o.clauses (map vec_items proof.vectors.items) proof.cnf proof.refutation.steps.items pair.kept.imp pair.kept.beside.kinds of.1))
      (ap (λ z. check_line z (codes "error") ++ (if o.proof then proof_text proof else [])) of.0)
  line_shown r Nothing mistake of none = NoError r (codes "none") (Contains-get_or no_verdict 0 [] (omega arith)) (append-nil (check_line r (codes "none")))
  line_shown r (Repair tables) mistake of none = absurd (true≢false none)
  line_shown r Nodes mistake of none = NoError r (codes "nodes") (Contains-get_or no_verdict 1 [] (omega arith)) (append-nil (check_line r (codes "nodes")))
  line_shown r Clauses mistake of none = NoError r (codes "clauses") (Contains-get_or no_verdict 2 [] (omega arith)) (append-nil (check_line r (codes "clauses")))
  line_shown r Wide mistake of none = NoError r (codes "wide") (Contains-get_or no_verdict 3 [] (omega arith)) (append-nil (check_line r (codes "wide")))

  lines_shown : (lines : List Line) → All (λ (line : Line). CheckResultIsMistake p line.check_result) lines → All (λ (line : Line). IsOfCheck p o line.rung line.check_result) lines → All (λ line. is_repair line ≡ false) lines
      → All (ShowsError requested s i) (map (check_line_text p o) lines)
  lines_shown [] mistakes of none = All-nil (ShowsError requested s i)
  lines_shown (line ∷ lines) mistakes of none =
      All-cons (ShowsError requested s i) (check_line_text p o line) (map (check_line_text p o) lines)
      (line_shown line.rung line.check_result (All-head (λ (l : Line). CheckResultIsMistake p l.check_result) line lines mistakes) (All-head (λ (l : Line). IsOfCheck p o l.rung l.check_result) line lines of) (All-head (λ l. is_repair l ≡ false) line lines none))
      (lines_shown lines (All-tail (λ (l : Line). CheckResultIsMistake p l.check_result) line lines mistakes) (All-tail (λ (l : Line). IsOfCheck p o l.rung l.check_result) line lines of) (All-tail (λ l. is_repair l ≡ false) line lines none))

one_alone : (v : Verdict) → status_of v ≡ 1 → v ≡ verdicts.Repairable → ⊥
one_alone v one repairable = zero_and_one (status_of v) (ap status_of repairable) one
  where
    zero_and_one : (n : ℕ) → n ≡ 0 → n ≡ 1 → ⊥
    zero_and_one n zero also = omega (arith, zero, also)

-- where no check gives tables, none says so
none_given : (lines : List Line) → ((tables : List TableBits) → GivesTables lines tables → ⊥) → All (λ line. is_repair line ≡ false) lines
none_given [] none = All-nil (λ line. is_repair line ≡ false)
none_given (line ∷ lines) none = All-cons (λ line. is_repair line ≡ false) line lines (by line.rung line.check_result refl) (none_given lines (λ tables gives.
    none tables (gives.0, gives.1, Contains-append_right (line ∷ []) lines gives.0 gives.2, gives.3, gives.4)))
  where
    by : (r : Rung) (check_result : CheckResult) → line.check_result ≡ check_result → is_repair line ≡ false
    by r (Error evidence) same = ap (λ z. is_repair (record { rung = line.rung; check_result = z })) same
    by r Nothing same = ap (λ z. is_repair (record { rung = line.rung; check_result = z })) same
    by r (Repair tables) same = absurd (none tables.items (line, tables, Contains-append_left (line ∷ []) lines line (Contains-get_or (line ∷ []) 0 line (omega arith)), same, refl))
    by r Nodes same = ap (λ z. is_repair (record { rung = line.rung; check_result = z })) same
    by r Clauses same = ap (λ z. is_repair (record { rung = line.rung; check_result = z })) same
    by r Wide same = ap (λ z. is_repair (record { rung = line.rung; check_result = z })) same

-- the line of an error says so
error_line : (p : NetPair) (o : Options) (r : Rung) (check_result : CheckResult) → is_error (record { rung = r; check_result = check_result }) ≡ true
    → (rest : List ℕ) × (check_line_text p o (record { rung = r; check_result = check_result }) ≡ check_line r (codes "error") ++ rest)
error_line p o r (Error evidence) is = (evidence_text p o evidence, refl)
error_line p o r Nothing is = absurd (true≢false (sym is))
error_line p o r (Repair tables) is = absurd (true≢false (sym is))
error_line p o r Nodes is = absurd (true≢false (sym is))
error_line p o r Clauses is = absurd (true≢false (sym is))
error_line p o r Wide is = absurd (true≢false (sym is))

found_error : (p : NetPair) (o : Options) (lines : List Line) → list_any is_error lines ≡ true
    → (rung : Rung) × (rest : List ℕ) × Contains (map (check_line_text p o) lines) (check_line rung (codes "error") ++ rest)
found_error p o lines some =
    let (line, has, is) = any_there is_error lines some in
    let (rest, same) = error_line p o line.rung line.check_result is in
    (line.rung, rest, subst (Contains (map (check_line_text p o) lines)) same (contains-map (check_line_text p o) lines line has))

-- the texts of lines one after another are those of the lines
pub joined : {X : Type 0} (f : X → List ℕ) (xs : List X) → flat_map (λ (t : List ℕ). t) (map f xs) ≡ flat_map f xs
joined f [] = refl
joined f (x ∷ xs) = ap (λ z. f x ++ z) (joined f xs)

is_error_verdict : (v : Verdict) → status_of v ≡ 1 → v ≡ verdicts.Error
is_error_verdict verdicts.Error e = refl
is_error_verdict verdicts.Repairable e = absurd (omega (arith, e))
is_error_verdict verdicts.Open e = absurd (omega (arith, e))

pub errors_are_shown : DesignsAreAllowed → FoundVectorsAreMistakes → ErrorsExcludeTables → GivenTablesMakeEquivalent → WrongOutputsAreMistakes → WrongVectorsAreMistakes → PairsAreNamed → FailingVectorsAreMistakes → RefutationsShowVectors → ErrorsAreShown
errors_are_shown allowed found exclude given at_outputs at_vectors named failing fail requested spec imp status text (Refused r is two t) one = absurd (omega (arith, two, one))
errors_are_shown allowed found exclude given at_outputs at_vectors named failing fail requested spec imp status text (Judged p lines s i are for climb same rest follows t) one =
    let s_allowed = allowed requested.spec_top spec s are.spec_design in
    let i_allowed = allowed requested.imp_top imp i are.imp_design in
    let none = exclude p requested.options lines for.kept climb (status_error lines (sym same ∙ one)) in
    let no_tables = λ (tables : List TableBits) (gives : GivesTables lines tables). let agree = given p requested.options lines tables for.kept climb gives in none tables agree.fit agree.agree in
    let bare = nothing_follows follows (λ repairable. one_alone (verdict_of lines) (sym same ∙ one) repairable) in
    record {
      s = s;
      i = i;
      reads = are_read_as requested spec imp s i are;
      checks = map (check_line_text p requested.options) lines;
      whole = t ∙ ap (λ z. report_text p requested.options lines ++ z) bare ∙ append-nil (report_text p requested.options lines)
          ∙ ap₂ (λ texts verdict. texts ++ verdict_line verdict) (sym (joined (check_line_text p requested.options) lines)) (is_error_verdict (verdict_of lines) (sym same ∙ one));
      found = found_error p requested.options lines (status_error lines (sym same ∙ one));
      shown = lines_shown at_outputs at_vectors named failing fail requested s i p s_allowed i_allowed for lines (found p requested.options lines climb)
          (each_of_check p requested.options (requested_rungs requested.options) lines climb) (none_given lines no_tables);
    }
