use Rattle.std.proofs.Common.{◌∙◌, refl, sym, ap, subst, length}
use Rattle.bb_net.specs.Flats.{IsFlat}
use Rattle.bb_verdict.specs.InvariantAnswers.{BrokenInvariant, IsBrokenReport}
use Rattle.bb_verdict.specs.Inside.BrokenTexts.{broken_bytes}
use Rattle.bb_verdict.proofs.InvariantJudged.{refuses_with, implements_texts, kept_judges, undecided_judges}
use Rattle.bb_verdict.proofs.TextPairLaws.{with_imp}
use Rattle.bb_verdict.proofs.judging.answer_with.Goals as goal

pub returns-in-Err : goal.returns-in-Err
returns-in-Err c = record {
  answer = refuses_with c.args.requested.now c.args.name.now c.args.spec.now c.args.imp.now c.in-Err.refusal
      (with_imp c.args.requested.now c.args.spec.now c.args.imp.now c.in-Err.refusal c.in-Err.ensures.refusal) c.refuse.result c.refuse.ensures.status c.refuse.ensures.report c.refuse.ensures.memory;
}

pub unreachable-requires : goal.unreachable-requires
unreachable-requires c =
    let can = c.made_can_be_unrolled.ensures c.args.requested.now c.args.spec.now c.args.imp.now c.args.name.now c.args.made.now c.in-Ok.flat c.requires.made c.requires.name c.in-Ok.ensures.ok (subst IsFlat c.flat.view_is c.flat.invariant) in
    c.in_default.ensures.none can.1

pub decided-requires-clause-can : goal.decided-requires-clause-can
decided-requires-clause-can c =
    (c.made_can_be_unrolled.ensures c.args.requested.now c.args.spec.now c.args.imp.now c.args.name.now c.args.made.now c.in-Ok.flat c.requires.made c.requires.name c.in-Ok.ensures.ok (subst IsFlat c.flat.view_is c.flat.invariant)).0

pub kept-requires-clause-kept : goal.kept-requires-clause-kept
kept-requires-clause-kept c = c.made_can_be_filled.ensures c.args.requested.now c.args.spec.now c.args.imp.now c.args.made.now c.requires.made

pub returns-in-Kept : goal.returns-in-Kept
returns-in-Kept c =
    let can = c.made_can_be_unrolled.ensures c.args.requested.now c.args.spec.now c.args.imp.now c.args.name.now c.args.made.now c.in-Ok.flat c.requires.made c.requires.name c.in-Ok.ensures.ok (subst IsFlat c.flat.view_is c.flat.invariant) in
    let meant = c.unrolled_are_meant.ensures c.args.requested.now c.args.spec.now c.args.imp.now c.args.name.now c.args.made.now c.in-Ok.flat c.in-Some.cell c.requires.made c.in-Ok.ensures.ok can.0 c.in-Some.ensures.some in
    record { answer = kept_judges c.args.requested.now c.args.name.now c.args.spec.now c.args.imp.now c.args.made.now c.requires.made (meant.kept (c.in_ok-decided.ensures.kept c.in-Kept.is)) c.kept.result c.kept.ensures.answer }

pub broken_report-requires-clause-inputs : goal.broken_report-requires-clause-inputs
broken_report-requires-clause-inputs c =
    let can = c.made_can_be_unrolled.ensures c.args.requested.now c.args.spec.now c.args.imp.now c.args.name.now c.args.made.now c.in-Ok.flat c.requires.made c.requires.name c.in-Ok.ensures.ok (subst IsFlat c.flat.view_is c.flat.invariant) in
    ap length c.ins.ensures.ins ∙ can.2

pub returns-in-Broken : goal.returns-in-Broken
returns-in-Broken c =
    let can = c.made_can_be_unrolled.ensures c.args.requested.now c.args.spec.now c.args.imp.now c.args.name.now c.args.made.now c.in-Ok.flat c.requires.made c.requires.name c.in-Ok.ensures.ok (subst IsFlat c.flat.view_is c.flat.invariant) in
    let meant = c.unrolled_are_meant.ensures c.args.requested.now c.args.spec.now c.args.imp.now c.args.name.now c.args.made.now c.in-Ok.flat c.in-Some.cell c.requires.made c.in-Ok.ensures.ok can.0 c.in-Some.ensures.some in
    let broken = meant.broken c.in-Broken.x.items (c.in_ok-decided.ensures.broken c.in-Broken.x c.in-Broken.is) in
    let same = ap (λ ins. broken_bytes c.in-Ok.flat ins c.in-Broken.x.items) (sym c.ins.ensures.ins) ∙ ap (broken_bytes c.in-Ok.flat c.ins.result.now) (sym c.deref.ensures.value) ∙ sym c.in_ok-broken_report-in-Broken.ensures.text in
    record {
      answer = BrokenInvariant c.args.made.now.pair (implements_texts c.args.requested.now c.args.spec.now c.args.imp.now c.args.made.now c.requires.made)
          (subst (IsBrokenReport c.args.requested.now c.args.spec.now c.args.name.now) same broken) refl;
    }

pub returns : goal.returns
returns c =
    let can = c.made_can_be_unrolled.ensures c.args.requested.now c.args.spec.now c.args.imp.now c.args.name.now c.args.made.now c.in-Ok.flat c.requires.made c.requires.name c.in-Ok.ensures.ok (subst IsFlat c.flat.view_is c.flat.invariant) in
    let meant = c.unrolled_are_meant.ensures c.args.requested.now c.args.spec.now c.args.imp.now c.args.name.now c.args.made.now c.in-Ok.flat c.in-Some.cell c.requires.made c.in-Ok.ensures.ok can.0 c.in-Some.ensures.some in
    record {
      answer = undecided_judges c.args.requested.now c.args.name.now c.args.spec.now c.args.imp.now c.args.made.now c.requires.made (meant.undecided (c.in_ok-decided.ensures.open c.in-Open.is)) c.say.result c.say.ensures;
    }
