use Rattle.std.proofs.Common.{◌++◌, ◌∙◌, refl, ap, codes}
use Rattle.bb_verdict.proofs.judging.kept.Goals as goal

pub returns : goal.returns
returns c = record {
  answer = (
    c.in_ok-checked.checked,
    c.in_ok-checked.ensures.answer,
    refl,
    c.in_ok-extend_from_slice.ensures.items ∙ ap (λ l. l ++ c.deref.result.now) c.in_ok-report.ensures.items ∙ ap (λ l. codes "invariant kept\n" ++ l) c.deref.ensures.value,
  );
}
