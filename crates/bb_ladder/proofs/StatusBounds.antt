-- No answer has a status above 4, which a failed read has.
use Rattle.std.proofs.Common.{◌≡◌, ◌≤◌, ℕ, List, Option, Some, None, arith}
use Rattle.bb_checks.specs.declared.verdict.Verdict.{Verdict}
use Rattle.bb_checks.specs.declared.verdict.Verdict.TheVariants as verdicts
use Rattle.bb_checks.specs.Reports.{status_of, verdict_of}
use Rattle.bb_make.specs.Adders.{made_imp, made_spec}
use Rattle.bb_outside.specs.Counts.{Reads}
use Rattle.bb_verdict.specs.declared.requested.TextComparison.{TextComparison}
use Rattle.bb_verdict.specs.InvariantAnswers.{AnswersTexts, BrokenInvariant, JudgesBy, KeptInvariant, RefusedWith, UndecidedInvariant, invariant_name}
use Rattle.bb_verdict.specs.TextAnswers.{Judges, Refused, Judged}
use Rattle.bb_ladder.specs.Answers.{ImpUnread, ImpLong, BothRead, OfFiles, SpecUnread, SpecLong, SpecRead, MayAnswer, Usage, Comparing, Making, Refuting}
use Rattle.bb_ladder.specs.Calls.{Call}
use Rattle.bb_ladder.specs.MadePairs.{request_for}
use Rattle.bb_ladder.specs.Refutations.{Checks, Faulty, Checked, Yes, No}

of_verdict : (v : Verdict) (status : ℕ) → status ≡ status_of v → status ≤ 4
of_verdict verdicts.Error status e = omega (arith, e)
of_verdict verdicts.Repairable status e = omega (arith, e)
of_verdict verdicts.Open status e = omega (arith, e)

of_checks : (requested : TextComparison) (spec imp : List ℕ) (status : ℕ) (text : List ℕ) → Judges requested spec imp status text → status ≤ 4
of_checks requested spec imp status text (Refused fault is two line) = omega (arith, two)
of_checks requested spec imp status text (Judged p lines s i designs pair climb is rest follows report) = of_verdict (verdict_of lines) status is

of_texts : (o : Option (List ℕ)) (requested : TextComparison) (spec imp : List ℕ) (status : ℕ) (text : List ℕ) → JudgesBy o requested spec imp status text → status ≤ 4
of_texts None requested spec imp status text judged = of_checks requested spec imp status text judged
of_texts (Some name) requested spec imp status text (RefusedWith fault is two line) = omega (arith, two)
of_texts (Some name) requested spec imp status text (KeptInvariant has report judged other behind) = of_checks requested spec imp status report judged
of_texts (Some name) requested spec imp status text (BrokenInvariant p implements broken three) = omega (arith, three)
of_texts (Some name) requested spec imp status text (UndecidedInvariant p implements large three line) = omega (arith, three)

of_additions : (first second : List ℕ) (status : ℕ) (text : List ℕ) → Checks first second status text → status ≤ 4
of_additions first second status text (Faulty is two) = omega (arith, two)
of_additions first second status text (Checked formula adds read (Yes succeed zero line)) = omega (arith, zero)
of_additions first second status text (Checked formula adds read (No n fails one line)) = omega (arith, one)

of_files : (judged : List ℕ → List ℕ → ℕ → List ℕ → Type 0) (each : (first second : List ℕ) (status : ℕ) (text : List ℕ) → judged first second status text → status ≤ 4)
    (holds : List ℕ → Option (List ℕ)) (first second : List ℕ) (before after : Reads) (status : ℕ) (text : List ℕ) → OfFiles judged holds first second before after status text → status ≤ 4
of_files judged each holds first second before after status text (SpecUnread c s t) = omega (arith, s)
of_files judged each holds first second before after status text (SpecLong spec g l c s t) = omega (arith, s)
of_files judged each holds first second before after status text (SpecRead spec between g short c (ImpUnread d s t)) = omega (arith, s)
of_files judged each holds first second before after status text (SpecRead spec between g short c (ImpLong imp h l d s t)) = omega (arith, s)
of_files judged each holds first second before after status text (SpecRead spec between g short c (BothRead imp h low d j)) = each spec imp status text j

pub at_most_four : (call : Call) (status : ℕ) (text : List ℕ) → MayAnswer call status text → status ≤ 4
at_most_four call status text (Usage none no_pair neither c two t) = omega (arith, two)
at_most_four call status text (Comparing q e files) =
    of_files (AnswersTexts q.requested) (of_texts (invariant_name q.requested) q.requested) call.holds q.spec q.imp call.before call.after status text files
at_most_four call status text (Making m e quiet judges) =
    of_texts (invariant_name (request_for m.fill m.options)) (request_for m.fill m.options) (made_spec m.n) (made_imp m.n) status judges.0 judges.1
at_most_four call status text (Refuting f e files) = of_files Checks of_additions call.holds f.cnf f.adds call.before call.after status text files
