use Rattle.std.proofs.Common.{◌≡◌, ◌<◌, All, arith, length, subst, sym}
use Rattle.std.proofs.lemmas.Grind.{common_steps}
use Rattle.bb_net.specs.Netlists.{box_at}
use Rattle.bb_fill.proofs.parts.pins_of.Goals as goal

pub returns-clause-there : goal.returns-clause-there
returns-clause-there c =
    let is : c.ins.result.now ≡ (box_at c.args.flat.now.net.boxes c.args.b).ins = grind (arith, common_steps, c.ins.ensures.ins, c.boxes.ensures.boxes, c.net.ensures.net, c.index-boxes-b.is, c.requires.there) in
    subst (All (λ k. k < length c.args.flat.now.net.cells)) (sym is) (c.net.ensures.kept.net.pins_there c.args.b)
