-- What follows the verdict: nothing, unless the filled implementation is asked for and the design can be finished, and no line of a table.
use Rattle.std.proofs.Common.{◌≡◌, ◌∙◌, ℕ, Bool, true, false, List, [], ◌++◌, if◌then◌else◌, refl, sym, ap, subst, true≢false}
use Rattle.std.specs.Prelude.{Option, None, Some, Result, Ok, Err, OnOk, Vec, codes}
use Rattle.std.specs.declared.alloc.Global.{Global}
use Rattle.std.specs.List.{list_any}
use Rattle.std.proofs.lemmas.List.{append-nil}
use Rattle.std.proofs.lemmas.List.Folds.{Any-from_list_any}
use Rattle.bb_bits.specs.Tables.{TableBits}
use Rattle.bb_fill.specs.Answers.{Answer, Clash, Text, IsFillAnswer, Clashes, IsLarge, IsFilled}
use Rattle.bb_fill.specs.Clashes.{IsClash}
use Rattle.bb_fill.specs.Filled.{filled_text}
use Rattle.bb_fill.specs.Laws.{AnswersExist}
use Rattle.bb_net.specs.Flats.{FlatNet, IsFlat}
use Rattle.bb_net.specs.Kinds.{per_box}
use denote.Enum.Bare.{sameb}
use Rattle.bb_checks.specs.contracts.verdict.Verdict.{the_type}
use Rattle.bb_checks.specs.declared.line.Line.{Line}
use Rattle.bb_checks.specs.declared.line.CheckResult.{CheckResult}
use Rattle.bb_checks.specs.declared.line.CheckResult.TheVariants.{Error, Nothing, Repair, Nodes, Clauses, Wide}
use Rattle.bb_checks.specs.declared.verdict.Verdict.{Verdict}
use Rattle.bb_checks.specs.declared.verdict.Verdict.TheVariants as verdicts
use Rattle.bb_checks.specs.Reports.{GivesTables, is_error, is_repair, verdict_of}
use Rattle.bb_checks.specs.Rungs.{reports_repair}
use Rattle.bb_verdict.specs.FilledTexts.{Follows, HasNoLine, MayFollowVerdict, NoTablesFollow, NotRequested, NotFinished, answer_text}
use Rattle.bb_verdict.specs.Inside.Made.{KeptFollows}
use Rattle.bb_verdict.proofs.FilledLines.{clash_quiet, filled_goes}
use Rattle.bb_verdict.proofs.LineBytes.{Goes, begin_apart, chain, closes, no_table_line, starts, whole_text}

-- nothing

module _ {fill : Bool} {f : FlatNet} {kinds : List ℕ} {lines : List Line} {rest : List ℕ} where
  pub nothing_unasked : MayFollowVerdict fill f kinds lines rest → fill ≡ false → rest ≡ []
  nothing_unasked (NotRequested off none) not_requested = none
  nothing_unasked (NotFinished other none) not_requested = none
  nothing_unasked (Follows on repairable tables gives answer may e) not_requested = absurd (true≢false (sym on ∙ not_requested))

  pub nothing_follows : MayFollowVerdict fill f kinds lines rest → (verdict_of lines ≡ verdicts.Repairable → ⊥) → rest ≡ []
  nothing_follows (NotRequested off none) other = none
  nothing_follows (NotFinished never none) other = none
  nothing_follows (Follows on repairable tables gives answer may e) other = absurd (other repairable)

-- where the verdict is that the design can be finished, a check gives tables, and so something may follow

given : (check_result : CheckResult) → reports_repair check_result ≡ true → (tables : Vec TableBits Global) × (check_result ≡ Repair tables)
given (Error evidence) e = absurd (true≢false (sym e))
given Nothing e = absurd (true≢false (sym e))
given (Repair tables) e = (tables, refl)
given Nodes e = absurd (true≢false (sym e))
given Clauses e = absurd (true≢false (sym e))
given Wide e = absurd (true≢false (sym e))

gives_some : (lines : List Line) → list_any is_repair lines ≡ true → (tables : List TableBits) × GivesTables lines tables
gives_some lines e =
    let (k, line, there, same, repair) = Any-from_list_any is_repair lines e in
    let (tables, gave) = given line.check_result repair in
    (tables.items, (line, tables, (k, there, same), gave, refl))

some_repair : (lines : List Line) → verdict_of lines ≡ verdicts.Repairable → list_any is_repair lines ≡ true
some_repair lines e = by (list_any is_error lines) (list_any is_repair lines) e
  where
    by : (a b : Bool) → (if a then verdicts.Error else (if b then verdicts.Repairable else verdicts.Open)) ≡ verdicts.Repairable → b ≡ true
    by a true e = refl
    by true false e = cc e
    by false false e = cc e

pub something_follows : AnswersExist → (fill : Bool) (f : FlatNet) (kinds : List ℕ) (lines : List Line) → (rest : List ℕ) × MayFollowVerdict fill f kinds lines rest
something_follows exist false f kinds lines = ([], NotRequested refl refl)
something_follows exist true f kinds lines = by (verdict_of lines) refl
  where
    no_error : verdicts.Error ≡ verdicts.Repairable → ⊥
    no_error e = cc e

    not_open : verdicts.Open ≡ verdicts.Repairable → ⊥
    not_open e = cc e

    by : (v : Verdict) → verdict_of lines ≡ v → (rest : List ℕ) × MayFollowVerdict true f kinds lines rest
    by verdicts.Error e = ([], NotFinished (λ repairable. no_error (sym e ∙ repairable)) refl)
    by verdicts.Open e = ([], NotFinished (λ repairable. not_open (sym e ∙ repairable)) refl)
    by verdicts.Repairable e =
        let tables = gives_some lines (some_repair lines e) in
        let answer = exist f (per_box kinds tables.0) in
        (answer_text answer.0, Follows refl e tables.0 tables.1 answer.0 answer.1 refl)

-- what the code puts after a report

pub same_verdict : (v : Verdict) → sameb the_type v verdicts.Repairable ≡ true → v ≡ verdicts.Repairable
same_verdict verdicts.Error e = absurd (true≢false (sym e))
same_verdict verdicts.Repairable e = refl
same_verdict verdicts.Open e = absurd (true≢false (sym e))

pub put_follows : {T E : Type 0} (r : Result T E) (f : FlatNet) (kinds : List ℕ) (lines : List Line) (tables : List TableBits) (old new : List ℕ) → verdict_of lines ≡ verdicts.Repairable → GivesTables lines tables
    → OnOk r ((answer : Answer) × IsFillAnswer f (per_box kinds tables) answer × (new ≡ old ++ answer_text answer)) → OnOk r ((rest : List ℕ) × MayFollowVerdict true f kinds lines rest × (new ≡ old ++ rest))
put_follows (Ok a) f kinds lines tables old new repairable gives put = (answer_text put.0, Follows refl repairable tables gives put.0 put.1 refl, put.2)
put_follows (Err e) f kinds lines tables old new repairable gives put = put

-- what follows is kept with the answer
module _ (imp : Option FlatNet) (kinds : List ℕ) (lines : List Line) (report text : List ℕ) where
  pub kept_some : (f : FlatNet) (own : List ℕ) (reported : List Line) (old new : List ℕ) → imp ≡ Some f → own ≡ kinds → reported ≡ lines → old ≡ report → text ≡ new
      → (rest : List ℕ) × MayFollowVerdict true f own reported rest × (new ≡ old ++ rest) → (rest : List ℕ) × KeptFollows imp kinds lines rest × (text ≡ report ++ rest)
  kept_some f own reported old new is same_kinds same_lines starts ends (rest, follows, e) =
      let of_lines = subst (λ z. MayFollowVerdict true f own z rest) same_lines follows in
      let of_kinds = subst (λ z. MayFollowVerdict true f z lines rest) same_kinds of_lines in
      (rest, subst (λ z. KeptFollows z kinds lines rest) (sym is) of_kinds, ends ∙ e ∙ ap (λ z. z ++ rest) starts)

  pub kept_none : imp ≡ None → text ≡ report → (rest : List ℕ) × KeptFollows imp kinds lines rest × (text ≡ report ++ rest)
  kept_none is same = ([], subst (λ z. KeptFollows z kinds lines []) (sym is) refl, same ∙ sym (append-nil report))

-- no line of a table

starts_line : (text : List ℕ) → ((rest : List ℕ) → begin_apart true rest ≡ true → begin_apart true (text ++ rest) ≡ true) → Goes true text true
starts_line text goes = record { on = goes }

module _ (f : FlatNet) (flat : IsFlat f) where
  clash_goes : (name : List ℕ) → IsClash f name → Goes true (answer_text (Clash name)) true
  clash_goes name clash = chain (chain (starts (codes "fill clash ") (λ rest is. is)) (clash_quiet f flat name clash)) (closes (codes "\n") (λ rest is. is))

  text_goes : (tables : List TableBits) → Goes true (answer_text (Text (filled_text f tables))) true
  text_goes tables = chain (starts_line (codes "fill\n") (λ rest is. is)) (filled_goes f flat tables)

  answer_goes : (tables : List TableBits) (answer : Answer) → IsFillAnswer f tables answer → Goes true (answer_text answer) true
  answer_goes tables answer (Clashes name clash same) = subst (λ z. Goes true (answer_text z) true) (sym same) (clash_goes name clash)
  answer_goes tables answer (IsLarge apart large same) = subst (λ z. Goes true (answer_text z) true) (sym same) (starts_line (codes "fill toolarge\n") (λ rest is. is))
  answer_goes tables answer (IsFilled apart small same) = subst (λ z. Goes true (answer_text z) true) (sym same) (text_goes tables)

pub no_tables_follow : NoTablesFollow
no_tables_follow fill f kinds lines rest flat (NotRequested off none) = subst (HasNoLine (codes "table")) (sym none) (no_table_line [] refl)
no_tables_follow fill f kinds lines rest flat (NotFinished other none) = subst (HasNoLine (codes "table")) (sym none) (no_table_line [] refl)
no_tables_follow fill f kinds lines rest flat (Follows on repairable tables gives answer may e) =
    subst (HasNoLine (codes "table")) (sym e) (no_table_line (answer_text answer) (whole_text true true (answer_text answer) (answer_goes f flat (per_box kinds tables) answer may)))
