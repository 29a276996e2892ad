use Rattle.std.proofs.Common.{◌++◌, ap, ◌∙◌, map}
use Rattle.bb_blast.specs.Inside.Counting.{after}
use Rattle.bb_blast.proofs.CappedNumbers.{moved_small}
use Rattle.bb_blast.proofs.box_cells.moved.Goals as goal

pub returns-clause-small : goal.returns-clause-small
returns-clause-small c few = c.in_ok-add_moved.ensures.added ∙ ap (λ l. l ++ map (after c.args.base) c.args.numbers.now) c.in_ok-places.ensures.items ∙ moved_small c.args.base c.args.numbers.now few
