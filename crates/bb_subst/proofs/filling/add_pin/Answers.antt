use Rattle.std.proofs.Common.{Bool, ◌<◌, ◌^◌, length, sym, ap, ◌∙◌, subst, All}
use Rattle.std.specs.Prelude.{slice_index}
use Rattle.std.proofs.lemmas.List.{length-map}
use Rattle.bb_bits.specs.Tables.{table_bit}
use Rattle.bb_lemmas.proofs.Ranges.{length-run}
use Rattle.bb_subst.proofs.FilledTrees.{all_mapped}
use Rattle.bb_subst.proofs.filling.add_pin.Goals as goal

pub add_tree-requires-clause-column : goal.add_tree-requires-clause-column
add_tree-requires-clause-column c =
    ap length (c.deref.ensures.value ∙ c.in_ok-column.ensures.column) ∙ length-run {A = Bool} (λ row. table_bit c.args.table.now row c.args.pin) 0 (2 ^ c.args.table.now.inputs)
    ∙ ap (λ n. 2 ^ n) (c.requires.inputs ∙ sym (ap length (c.deref-2.ensures.value ∙ c.in_ok-pins.ensures.places) ∙ length-map c.args.ins.now (slice_index c.args.places.now)))

pub add_tree-requires-clause-there : goal.add_tree-requires-clause-there
add_tree-requires-clause-there c =
    subst (All (λ k. k < length c.args.net.now.cells)) (sym (c.deref-2.ensures.value ∙ c.in_ok-pins.ensures.places))
    (all_mapped (slice_index c.args.places.now) (λ k. k < length c.args.net.now.cells) c.args.ins.now c.requires.there)
