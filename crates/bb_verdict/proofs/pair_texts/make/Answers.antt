use Rattle.bb_verdict.proofs.TextPairLaws.{both_refused, is_made, with_imp, with_spec}
use Rattle.bb_verdict.proofs.pair_texts.make.Goals as goal

pub returns-in-Err-clause-refusal : goal.returns-in-Err-clause-refusal
returns-in-Err-clause-refusal c = with_imp c.args.requested.now c.args.spec.now c.args.imp.now c.in-Err.refusal c.in-Err.ensures.refusal

pub returns-in-Err-imp_flat-clause-refusal : goal.returns-in-Err-imp_flat-clause-refusal
returns-in-Err-imp_flat-clause-refusal c =
    let s = c.in-Ok.ensures.ok in
    with_spec c.args.requested.now c.args.spec.now c.args.imp.now c.in-Err-imp_flat.refusal s.0 s.1 c.in-Err-imp_flat.ensures.refusal

pub returns-in-Ok-beside-clause-ok : goal.returns-in-Ok-beside-clause-ok
returns-in-Ok-beside-clause-ok c =
    let s = c.in-Ok.ensures.ok in
    let i = c.in-Ok-imp_flat.ensures.ok in
    is_made c.args.requested.now c.args.spec.now c.args.imp.now s.0 i.0 s.1 i.1 _ _ (c.in-Ok-beside.ensures.ok s.0 i.0 s.2 i.2) c.in-Ok-kept.ensures.kept

pub returns-in-Err-beside-clause-refusal : goal.returns-in-Err-beside-clause-refusal
returns-in-Err-beside-clause-refusal c =
    let s = c.in-Ok.ensures.ok in
    let i = c.in-Ok-imp_flat.ensures.ok in
    both_refused c.args.requested.now c.args.spec.now c.args.imp.now c.in-Err-beside.refusal s.0 i.0 _ _ s.1 i.1 s.2 i.2 c.in-Err-beside.ensures.refusal
