use Rattle.std.proofs.Common.{map, sym, ap, ◌∙◌}
use Rattle.bb_ast.specs.declared.module.Call.{Call}
use Rattle.bb_ast.specs.Inside.Views.{body_view}
use Rattle.bb_design.specs.Hierarchy.{Instance, instances_in}
use Rattle.bb_hier.proofs.InstanceNames.{names_called}
use Rattle.bb_hier.proofs.depth.calls_in.Goals as goal

pub returns-in-Calls : goal.returns-in-Calls
returns-in-Calls c = record {
  names = ap (λ b. map (λ (i : Instance). i.name) (instances_in (body_view b))) c.in-Calls.is ∙ names_called c.in-Calls.field-0 c.in-Calls.calls.items ∙ ap (map (λ (call : Call). call.name)) (sym c.deref.ensures.value);
}
