-- What is judged of the two texts of a made pair, with its head, is what may be answered to it.
use Rattle.std.proofs.Common.{◌≡◌, ◌∙◌, ℕ, List, ap, subst, sym}
use Rattle.std.specs.Prelude.{IfOk, Result, Ok, Err}
use Rattle.bb_make.specs.Adders.{made_imp, made_spec}
use Rattle.bb_args.specs.Requests.{MadePair}
use Rattle.bb_verdict.specs.declared.answer.Answer.{Answer}
use Rattle.bb_verdict.specs.declared.requested.TextComparison.{TextComparison}
use Rattle.bb_ladder.specs.MadePairs.{JudgesMade, request_for, made_text}
use Rattle.bb_verdict.specs.InvariantAnswers.{AnswersTexts}

module _ {E : Type 0} (m : MadePair) where
  pub judged_made : (requested : TextComparison) (spec imp : List ℕ) (a : Answer) (r : Result Answer E) → requested ≡ request_for m.fill m.options → spec ≡ made_spec m.n → imp ≡ made_imp m.n
      → AnswersTexts requested spec imp a.status a.report.items → IfOk r (λ h. h.status ≡ a.status) → IfOk r (λ h. h.report.items ≡ made_text m.n a.status a.report.items)
      → IfOk r (λ h. JudgesMade m h.status h.report.items)
  judged_made requested spec imp a (Err e) x y z judges status text = tt
  judged_made requested spec imp a (Ok h) x y z judges status text =
      let of_requested = subst (λ q. AnswersTexts q spec imp a.status a.report.items) x judges in
      let of_spec = subst (λ s. AnswersTexts (request_for m.fill m.options) s imp a.status a.report.items) y of_requested in
      let of_imp = subst (λ i. AnswersTexts (request_for m.fill m.options) (made_spec m.n) i a.status a.report.items) z of_spec in
      let of_status = subst (λ n. AnswersTexts (request_for m.fill m.options) (made_spec m.n) (made_imp m.n) n a.report.items) (sym status) of_imp in
      (a.report.items, of_status, text ∙ ap (λ n. made_text m.n n a.report.items) (sym status))
