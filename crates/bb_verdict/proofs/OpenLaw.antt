-- Where the verdict is that the question is open, no line says that there is a mistake or gives tables, so each check was run.
use Rattle.std.proofs.Common.{◌≡◌, ◌∷◌, ◌++◌, ◌∙◌, ℕ, Bool, true, false, not, ◌||◌, ◌&&◌, if◌then◌else◌, List, [], map, refl, sym, ap, ap₂, subst, arith, true≢false}
use Rattle.std.specs.Prelude.{codes}
use Rattle.std.specs.List.{AllZip, list_any}
use Rattle.std.proofs.lemmas.List.{append-nil}
use Rattle.std.proofs.lemmas.List.Elements.{Contains-get_or}
use Rattle.bb_net.specs.Pairs.{NetPair}
use Rattle.bb_options.specs.declared.options.Options.{Options}
use Rattle.bb_options.specs.declared.rung.Rung.{Rung}
use Rattle.bb_options.specs.Rungs.{requested_rungs}
use Rattle.bb_checks.specs.declared.line.Line.{Line}
use Rattle.bb_checks.specs.declared.line.CheckResult.{CheckResult}
use Rattle.bb_checks.specs.declared.line.CheckResult.TheVariants.{Error, Nothing, Repair, Nodes, Clauses, Wide}
use Rattle.bb_checks.specs.declared.verdict.Verdict.TheVariants as verdicts
use Rattle.bb_checks.specs.Reports.{check_line_text, report_text, status_of, verdict_line, verdict_of}
use Rattle.bb_checks.specs.Rungs.{Climbs, End, Step, Top, is_error, is_repair}
use Rattle.bb_verdict.specs.Laws.TextAnswers.{OpenAnswersAreReports}
use Rattle.bb_verdict.specs.OpenReports.{IsOpenLine}
use Rattle.bb_verdict.specs.ShownMistakes.{check_line, no_verdict}
use Rattle.bb_verdict.specs.TextAnswers.{Refused, Judged}
use Rattle.bb_verdict.proofs.AnswerLaws.{is_open}
use Rattle.bb_verdict.proofs.FollowLaws.{nothing_follows}
use Rattle.bb_verdict.proofs.ShownLaw.{joined}

-- no line says that there is a mistake, and none gives tables
abbrev None : List Line → Type 0
None lines = (list_any is_error lines ≡ false) × (list_any is_repair lines ≡ false)

status_open : (lines : List Line) → status_of (verdict_of lines) ≡ 3 → None lines
status_open lines e = by (list_any is_error lines) (list_any is_repair lines) e
  where
    by : (a b : Bool) → status_of (if a then verdicts.Error else (if b then verdicts.Repairable else verdicts.Open)) ≡ 3 → (a ≡ false) × (b ≡ false)
    by true b e = absurd (omega (arith, e))
    by false true e = absurd (omega (arith, e))
    by false false e = (refl, refl)

neither : (a b : Bool) → (a || b) ≡ false → (a ≡ false) × (b ≡ false)
neither true b e = absurd (true≢false e)
neither false b e = (refl, e)

-- then no check ends them
never_ends : (repair error all : Bool) → repair ≡ false → error ≡ false → (repair || (error && not all)) ≡ true → ⊥
never_ends true error all bare clean e = true≢false bare
never_ends false true all bare clean e = true≢false clean
never_ends false false all bare clean e = true≢false (sym e)

module _ (p : NetPair) (o : Options) where
  open_line : (r : Rung) (check_result : CheckResult) → is_error (record { rung = r; check_result = check_result }) ≡ false → is_repair (record { rung = r; check_result = check_result }) ≡ false
      → IsOpenLine r (check_line_text p o (record { rung = r; check_result = check_result }))
  open_line r (Error evidence) error repair = absurd (true≢false error)
  open_line r Nothing error repair = (codes "none", Contains-get_or no_verdict 0 [] (omega arith), append-nil (check_line r (codes "none")))
  open_line r (Repair tables) error repair = absurd (true≢false repair)
  open_line r Nodes error repair = (codes "nodes", Contains-get_or no_verdict 1 [] (omega arith), append-nil (check_line r (codes "nodes")))
  open_line r Clauses error repair = (codes "clauses", Contains-get_or no_verdict 2 [] (omega arith), append-nil (check_line r (codes "clauses")))
  open_line r Wide error repair = (codes "wide", Contains-get_or no_verdict 3 [] (omega arith), append-nil (check_line r (codes "wide")))

  open_lines : (rungs : List Rung) (lines : List Line) → Climbs p o rungs lines → None lines → AllZip IsOpenLine rungs (map (check_line_text p o) lines)
  open_lines [] [] Top none = record {}
  open_lines [] (line ∷ more) climb none = elim climb [ ]
  open_lines (r ∷ rungs) [] climb none = elim climb [ ]
  open_lines (r ∷ rungs) (line ∷ []) (End at may ends) (errors, repairs) =
      absurd (never_ends (is_repair line) (is_error line) o.all (neither (is_repair line) false repairs).0 (neither (is_error line) false errors).0 ends)
  open_lines (r ∷ rungs) (line ∷ more) (Step at may ends rest) (errors, repairs) =
      let (error, no_errors) = neither (is_error line) (list_any is_error more) errors in
      let (repair, no_repairs) = neither (is_repair line) (list_any is_repair more) repairs in (
        subst (λ z. IsOpenLine z (check_line_text p o line)) at (open_line line.rung line.check_result error repair),
        open_lines rungs more rest (no_errors, no_repairs),
      )

never_both : (n : ℕ) → n ≡ 3 → n ≡ 0 → ⊥
never_both n three zero = omega (arith, three, zero)

pub open_answers_are_reports : OpenAnswersAreReports
open_answers_are_reports requested spec imp status text (Refused r is two t) three = absurd (omega (arith, two, three))
open_answers_are_reports requested spec imp status text (Judged p lines s i are for climb same rest follows t) three =
    let is = sym same ∙ three in
    let bare = nothing_follows follows (λ repairable. never_both (status_of (verdict_of lines)) is (ap status_of repairable)) in
    record {
      lines = map (check_line_text p requested.options) lines;
      each = open_lines p requested.options (requested_rungs requested.options) lines climb (status_open lines is);
      whole = t ∙ ap (λ z. report_text p requested.options lines ++ z) bare ∙ append-nil (report_text p requested.options lines)
          ∙ ap₂ (λ texts verdict. texts ++ verdict_line verdict) (sym (joined (check_line_text p requested.options) lines)) (is_open (verdict_of lines) is);
    }
