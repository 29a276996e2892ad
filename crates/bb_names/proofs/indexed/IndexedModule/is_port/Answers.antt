use Rattle.std.proofs.Common.{ap, ◌∙◌}
use Rattle.std.specs.Prelude.{is_some}
use Rattle.bb_ast.specs.Inside.Views.{module_view}
use Rattle.bb_names.proofs.IndexLemmas.{port-any}
use Rattle.bb_names.proofs.indexed.IndexedModule.is_port.Goals as goal

pub returns : goal.returns
returns c = rw (← c.self.view_is) (c.contains_key.ensures ∙ ap is_some (c.self.invariant.ports c.args.name.now) ∙ port-any (module_view c.self.inside.module) c.args.name.now)
