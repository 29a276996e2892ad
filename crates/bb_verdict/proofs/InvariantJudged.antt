-- What the code answers is an answer to the two texts, with an invariant and without one.
use Rattle.std.proofs.Common.{◌≡◌, ◌⊎◌, ◌++◌, ◌∙◌, ℕ, List, Option, None, Some, sym, ap, subst, inl, inr, arith, append_assoc}
use Rattle.std.specs.Prelude.{Result, Ok, Err, IfOk, codes}
use Rattle.bb_checks.specs.declared.verdict.Verdict.{Verdict}
use Rattle.bb_checks.specs.declared.verdict.Verdict.TheVariants as verdicts
use Rattle.bb_checks.specs.Reports.{status_of, verdict_of}
use Rattle.bb_frontend.specs.declared.refusal.Refusal.{Refusal}
use Rattle.bb_frontend.specs.declared.refusal.Refusal.TheVariants.{NoMemory}
use Rattle.bb_options.specs.declared.options.Options.{Options}
use Rattle.bb_verdict.specs.declared.answer.Answer.{Answer}
use Rattle.bb_verdict.specs.declared.pair_texts.Made.{Made}
use Rattle.bb_verdict.specs.declared.requested.TextComparison.{TextComparison}
use Rattle.bb_verdict.specs.Inside.Made.{IsChecked, IsMade}
use Rattle.bb_verdict.specs.InvariantAnswers.{AnswersTexts, HasInvariant, IsUndecided, JudgesBy, JudgesWith, KeptInvariant, RefusedWith, UndecidedInvariant}
use Rattle.bb_verdict.specs.InvariantAnswers.{invariant_name, refusal_line_with}
use Rattle.bb_verdict.specs.TextAnswers.{Judges, Refused}
use Rattle.bb_verdict.specs.TextPairs.{ImplementsTexts, IsRefusal}
use Rattle.bb_verdict.proofs.TextPairLaws.{judged}

refused_by : (o : Option (List ℕ)) (requested : TextComparison) (spec imp : List ℕ) (fault : Refusal) → IsRefusal requested spec imp fault → (status : ℕ) (text : List ℕ)
    → status ≡ 2 → text ≡ refusal_line_with o fault → JudgesBy o requested spec imp status text
refused_by None requested spec imp fault is status text two line = Refused fault is two line
refused_by (Some name) requested spec imp fault is status text two line = RefusedWith fault is two line

pub refuses_with : {E : Type 0} (requested : TextComparison) (name spec imp : List ℕ) (fault : Refusal) → (fault ≡ NoMemory) ⊎ IsRefusal requested spec imp fault → (result : Result Answer E)
    → IfOk result (λ a. a.status ≡ 2) → IfOk result (λ a. a.report.items ≡ refusal_line_with (Some name) fault) → IfOk result (λ a. fault ≡ NoMemory → ⊥) → IfOk result (λ a. JudgesWith requested name spec imp a.status a.report.items)
refuses_with requested name spec imp fault (inl none) (Ok a) two line never = absurd (never none)
refuses_with requested name spec imp fault (inr is) (Ok a) two line never = RefusedWith fault is two line
refuses_with requested name spec imp fault may (Err e) two line never = two

pub refuses_by : {E : Type 0} (o : Option (List ℕ)) (requested : TextComparison) (spec imp : List ℕ) (fault : Refusal) → o ≡ invariant_name requested → (fault ≡ NoMemory) ⊎ IsRefusal requested spec imp fault
    → (result : Result Answer E) → IfOk result (λ a. a.status ≡ 2) → IfOk result (λ a. a.report.items ≡ refusal_line_with o fault) → IfOk result (λ a. fault ≡ NoMemory → ⊥)
    → IfOk result (λ a. AnswersTexts requested spec imp a.status a.report.items)
refuses_by o requested spec imp fault same (inl none) (Ok a) two line never = absurd (never none)
refuses_by o requested spec imp fault same (inr is) (Ok a) two line never =
    subst (λ o. JudgesBy o requested spec imp a.status a.report.items) same (refused_by o requested spec imp fault is a.status a.report.items two line)
refuses_by o requested spec imp fault same may (Err e) two line never = two

-- by whether an invariant is requested

pub answers_by : {E : Type 0} (o : Option (List ℕ)) (requested : TextComparison) (spec imp : List ℕ) → invariant_name requested ≡ o → (result : Result Answer E)
    → IfOk result (λ a. JudgesBy o requested spec imp a.status a.report.items) → IfOk result (λ a. AnswersTexts requested spec imp a.status a.report.items)
answers_by o requested spec imp same result judges = subst (λ o. IfOk result (λ a. JudgesBy o requested spec imp a.status a.report.items)) (sym same) judges

pub implements_texts : (requested : TextComparison) (spec imp : List ℕ) (made : Made) → IsMade requested spec imp made → ImplementsTexts requested spec imp made.pair
implements_texts requested spec imp made is = (is.s, is.i, is.designs, is.pair)

-- the checks never answer with the status of a refusal

pub no_second : (v : Verdict) → status_of v ≡ 2 → ⊥
no_second verdicts.Error e = omega (arith, e)
no_second verdicts.Repairable e = omega (arith, e)
no_second verdicts.Open e = omega (arith, e)

-- the answer of the checks, behind the line that the invariant is kept
abbrev pub IsKeptAnswer : Made → Options → Answer → Type 0
IsKeptAnswer made o answer = (checked : Answer) × IsChecked made o checked × (answer.status ≡ checked.status) × (answer.report.items ≡ codes "invariant kept\n" ++ checked.report.items)

pub kept_judges : {E : Type 0} (requested : TextComparison) (name spec imp : List ℕ) (made : Made) → IsMade requested spec imp made → HasInvariant requested spec name
    → (result : Result Answer E) → IfOk result (IsKeptAnswer made requested.options) → IfOk result (λ a. JudgesWith requested name spec imp a.status a.report.items)
kept_judges requested name spec imp made is has (Ok a) (checked, checks, status, text) =
    let answered : Result Answer Options = Ok checked in
    let judges : Judges requested spec imp checked.status checked.report.items = judged requested spec imp made is answered checks in
    KeptInvariant has checked.report.items (subst (λ s. Judges requested spec imp s checked.report.items) (sym status) judges)
    (λ two. no_second (verdict_of checks.lines) (sym checks.status ∙ sym status ∙ two)) text
kept_judges requested name spec imp made is has (Err e) answer = answer

pub undecided_judges : {E : Type 0} (requested : TextComparison) (name spec imp : List ℕ) (made : Made) → IsMade requested spec imp made → IsUndecided requested spec name
    → (result : Result Answer E) → IfOk result (λ a. (a.status ≡ 3) × (a.report.items ≡ codes "invariant open\nverdict open\n")) → IfOk result (λ a. JudgesWith requested name spec imp a.status a.report.items)
undecided_judges requested name spec imp made is large (Ok a) said = UndecidedInvariant made.pair (implements_texts requested spec imp made is) large said.0 said.1
undecided_judges requested name spec imp made is large (Err e) said = said

-- the line of an invariant that is no output, as it is pushed

pub pushed_line : (line n old text : List ℕ) → line ≡ codes "refused pair invariant " ++ (n ++ codes "\n")
    → text ≡ ((old ++ codes "refused pair invariant ") ++ n) ++ codes "\n" → text ≡ old ++ line
pushed_line line n old text is pushed =
    pushed ∙ append_assoc (old ++ codes "refused pair invariant ") n (codes "\n") ∙ append_assoc old (codes "refused pair invariant ") (n ++ codes "\n") ∙ ap (λ l. old ++ l) (sym is)
