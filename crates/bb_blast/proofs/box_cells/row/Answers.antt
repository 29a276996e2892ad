use Rattle.std.proofs.Common.{[], ◌∷◌, ◌++◌, refl, ap, ◌∙◌}
use Rattle.bb_blast.specs.Inside.Counting.{after}
use Rattle.bb_blast.proofs.ListingLoops.{cells_grow}
use Rattle.bb_blast.proofs.box_cells.row.Goals as goal

pub loop-k-preserved : goal.loop-k-preserved
loop-k-preserved c =
    cells_grow (after c.args.base) [] c.loop-k.row.items c.push.new.self.items c.loop-k.k c.loop-k.k refl c.loop-k.invariant (c.in_ok-push.ensures.items ∙ ap (λ p. c.loop-k.row.items ++ p ∷ []) c.after.ensures.number)
