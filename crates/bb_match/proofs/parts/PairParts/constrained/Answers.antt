use Rattle.std.proofs.Common.{sym, subst, ◌∙◌}
use Rattle.bb_net.specs.Pairs.{AreBeside}
use Rattle.bb_match.proofs.CarePairs.{made_constrained}
use Rattle.bb_match.proofs.PairLemmas.{mk_pair}
use Rattle.bb_match.proofs.parts.PairParts.constrained.Goals as goal

pub of-requires-clause-beside : goal.of-requires-clause-beside
of-requires-clause-beside c =
    let p = c.self.inside in
    let parts = mk_pair p.spec p.imp p.ins.items p.outs.items p.boxes.items p.kinds.items in
    let outs = c.deref.ensures.value ∙ c.in_ok-places.ensures.items ∙ c.outs.ensures.outs in
    subst AreBeside (sym (made_constrained c.args.care c.deref.result.now parts c.args.self c.in_ok-both.both.spec c.in_ok-both.both.imp c.self.view_is outs c.in_ok-both.ensures.spec c.in_ok-both.ensures.imp))
    (c.constrained_pairs_are_pairs.ensures c.args.self c.args.care c.requires.kept c.requires.room c.requires.care).beside

pub returns : goal.returns
returns c =
    let p = c.self.inside in
    let parts = mk_pair p.spec p.imp p.ins.items p.outs.items p.boxes.items p.kinds.items in
    let outs = c.deref.ensures.value ∙ c.in_ok-places.ensures.items ∙ c.outs.ensures.outs in
    record { pair = c.of.ensures.pair ∙ made_constrained c.args.care c.deref.result.now parts c.args.self c.in_ok-both.both.spec c.in_ok-both.both.imp c.self.view_is outs c.in_ok-both.ensures.spec c.in_ok-both.ensures.imp }
