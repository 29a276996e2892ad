use Rattle.std.proofs.Common.{not, map, vec_items}
use Rattle.bb_tern.specs.Patterns.{one_against_all}
use Rattle.bb_tern.proofs.DrawLemmas.{rows_more}
use Rattle.bb_tern.proofs.drawing.push_alone.Goals as goal

pub loop-i-preserved : goal.loop-i-preserved
loop-i-preserved c =
    rows_more vec_items (one_against_all c.args.inputs c.args.bit (not c.args.bit)) (map vec_items c.args.all.now.items) c.loop-i.all.items c.push.new.self.items c.in_ok-one_alone.field-0 c.loop-i.i c.loop-i.invariant c.in_ok-push.ensures.items c.in_ok-one_alone.ensures.ok
