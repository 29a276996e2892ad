use Rattle.bb_expr.proofs.PlaceLemmas.{row-more}
use Rattle.bb_expr.proofs.rows.add.Goals as goal

pub returns : goal.returns
returns c = λ rows old row.
    row-more rows old c.args.steps.now.items c.push.new.steps.items c.args.places.now.items c.push-2.new.self.items c.args.step c.in_ok-place.place row
    c.in_ok-place.ensures.steps c.in_ok-place.ensures.place c.in_ok-push.ensures.items
