use Rattle.std.proofs.Common.{map, subst}
use Rattle.bb_ast.specs.Syntax.{PlainItem}
use Rattle.bb_ast.specs.Inside.Views.{item_view}
use Rattle.bb_names.specs.Inside.Checked.{module_facts, syntax}
use Rattle.bb_hier.specs.Inside.Weights.{any_scope, stored_by, AreMarks}
use Rattle.bb_hier.proofs.MarkLemmas.{flat_more, flat_all}
use Rattle.bb_hier.proofs.register_bits.mark_items.Goals as goal

pub mark_item-requires-clause-marks : goal.mark_item-requires-clause-marks
mark_item-requires-clause-marks c = (_, c.loop-item.invariant c.requires.marks.0 c.requires.marks.1)

pub loop-item-preserved : goal.loop-item-preserved
loop-item-preserved c = λ bits are.
    subst (AreMarks c.args.scope.now.nets.items (map (λ row. row.items) c.mark_item.new.marks))
    (flat_more (λ (item : PlainItem). stored_by (any_scope (syntax (module_facts c.args.scope.now))) item.body) item_view c.args.items.now c.loop-item.item-index bits c.item-item.result c.loop-item-test.true c.item-item.is)
    (c.in_ok-mark_item.ensures.marks _ (c.loop-item.invariant bits are))

pub returns : goal.returns
returns c = record {
  marks = λ bits are.
      subst (AreMarks c.args.scope.now.nets.items (map (λ row. row.items) c.loop-item.marks))
      (flat_all (λ (item : PlainItem). stored_by (any_scope (syntax (module_facts c.args.scope.now))) item.body) item_view c.args.items.now c.loop-item.item-index bits c.loop-item-test.false)
      (c.loop-item.invariant bits are);
}
