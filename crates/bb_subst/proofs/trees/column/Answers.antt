use Rattle.std.proofs.Common.{ℕ, Bool, List, ◌++◌, ◌∷◌, [], sym, ap₂, ◌∙◌, arith}
use Rattle.std.proofs.lemmas.List.FromFn.{map-range_with_len_more}
use Rattle.bb_bits.specs.Tables.{table_bit}
use Rattle.bb_subst.proofs.trees.column.Goals as goal

pub loop-row-preserved : goal.loop-row-preserved
loop-row-preserved c =
    c.in_ok-push.ensures.items ∙ ap₂ (λ (l : List Bool) (b : Bool). l ++ b ∷ []) c.loop-row.invariant c.bit.ensures.bit
    ∙ sym (map-range_with_len_more (λ (row : ℕ). table_bit c.args.table.now row c.args.pin) 0 c.loop-row.row c.loop-row.row (omega arith))
