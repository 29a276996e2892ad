use Rattle.std.proofs.Common.{◌<◌, length, Some, None, ◌∙◌, arith, get_or-set_other}
use Rattle.std.proofs.lemmas.List.{length-set}
use Rattle.bb_net.proofs.PlacedCells.{first_more, open_count-set}
use Rattle.bb_net.proofs.ordering.beginning.first_places.Goals as goal

pub loop-k-preserved : goal.loop-k-preserved
loop-k-preserved c =
    let to = c.loop-k.to.items in
    let k = c.loop-k.k in
    let is = c.loop-k.invariant in
    let lt : k < length to = omega (arith, c.loop-k-test.true, c.requires.within, is.whole) in
    let here = is.free k (omega arith) in
    record {
      whole = length-set to k (Some k) ∙ is.whole;
      first = first_more to k lt is.first here;
      free = λ j h. get_or-set_other to k j (Some k) None (λ e. omega (arith, h, e)) ∙ is.free j (omega (arith, h));
      count = omega (arith, is.count, open_count-set to k k lt here);
    }
