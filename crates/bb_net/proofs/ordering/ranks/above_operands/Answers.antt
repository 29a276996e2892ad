use Rattle.std.proofs.Common.{ℕ, List, ◌<◌, sym, subst}
use Rattle.std.specs.Prelude.{Contains, slice_index}
use Rattle.bb_net.specs.Loose.{operand_places}
use Rattle.bb_net.proofs.LookedAt.{reads_whole}
use Rattle.bb_net.proofs.ordering.ranks.above_operands.Goals as goal

pub returns-in_default : goal.returns-in_default
returns-in_default c =
    let boxes = c.args.loose.now.boxes in
    record {
      above = λ a has. (let reads = subst (λ d. Contains (operand_places boxes d) a) (sym c.cell.ensures.cell) has in
          subst (λ (ranks : List ℕ). slice_index ranks a < c.above_gate.result) c.deref-in_default.ensures.value
          (c.above_gate.ensures.above a (reads_whole boxes c.cell.result (λ o. c.in_default.not-BoxOut o.0 o.1 o.2) a reads)));
    }
