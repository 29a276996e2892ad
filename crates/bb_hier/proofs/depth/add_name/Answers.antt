use Rattle.std.proofs.Common.{sym, ap, ◌++◌, ◌∙◌}
use Rattle.bb_ast.specs.declared.module.Call.{Call}
use Rattle.bb_hier.proofs.InstanceNames.{name_found, name_later}
use Rattle.bb_hier.proofs.depth.add_name.Goals as goal

pub returns-then-left-calls : goal.returns-then-left-calls
returns-then-left-calls c = record {
  ok = name_found c.args.items.now c.args.place c.loop-item.item-index c.loop-item.left c.item-item.result c.calls_in-calls.result.now c.loop-item-test.true c.item-item.is c.calls_in-calls.ensures.names c.loop-item.invariant.1
      c.index-calls-left.result c.if-left-calls.true c.index-calls-left.is c.args.path.now.items c.extend_from_slice.new.self.items
      (c.in_ok-extend_from_slice.ensures.items ∙ ap (λ l. l ++ c.bytes.result.now) c.loop-item.invariant.0 ∙ ap (λ l. c.args.path.now.items ++ l) (c.bytes.ensures.bytes ∙ ap (λ (call : Call). call.name) (sym c.index-calls-left.is)));
}

pub loop-item-preserved : goal.loop-item-preserved
loop-item-preserved c = (
  c.loop-item.invariant.0,
  name_later c.args.items.now c.args.place c.loop-item.item-index c.loop-item.left c.item-item.result c.calls_in-calls.result.now c.loop-item-test.true c.item-item.is c.calls_in-calls.ensures.names c.loop-item.invariant.1 c.if-left-calls.false,
)
