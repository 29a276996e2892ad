use Rattle.std.proofs.Common.{List, ℕ, ap, arith}
use Rattle.std.specs.Prelude.{slice_index}
use Rattle.std.proofs.lemmas.Bool.{ltb-false}
use Rattle.bb_net.proofs.WalkLemmas.{falls_off}
use Rattle.bb_net.proofs.ordering.walks.may_be_on_walk.Goals as goal

pub returns-else-not-rise : goal.returns-else-not-rise
returns-else-not-rise c = record {
  off = λ e walk. falls_off c.args.loose.now c.args.ranks.now.cells.items c.args.place c.above_operands.result c.requires.list (c.requires.cells_rise c.if-not-rise.false)
      (omega (arith, ltb-false c.from.result c.above_operands.result e, c.from.ensures, c.rank_at.ensures.rank, ap (λ (ranks : List ℕ). slice_index ranks c.args.place) c.deref.ensures.value))
      c.above_operands.ensures.above walk;
}
