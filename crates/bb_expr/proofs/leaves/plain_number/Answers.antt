use Rattle.std.proofs.Common.{◌≡◌, ◌∙◌, false, map, IfOk, subst}
use Rattle.bb_bits.specs.Numbers.{bits_of}
use Rattle.bb_expr.specs.Cells.{without_cells}
use Rattle.bb_expr.specs.Inside.Growing.{Adds}
use Rattle.bb_expr.specs.Lists.{extended}
use Rattle.bb_expr.specs.Terms.{Const}
use Rattle.bb_expr.proofs.leaves.plain_number.Goals as goal

pub returns : goal.returns
returns c = λ nets.
    let bits : c.deref.result.now ≡ bits_of 32 c.args.value = c.deref.ensures.value ∙ c.in_ok-bits.ensures in
    subst (λ bs. IfOk c.number.result (λ places. Adds nets (without_cells (extended (Const false) c.args.width (map Const bs))) c.args.steps.now.items c.number.new.steps.items places.items)) bits (c.number.ensures nets)
