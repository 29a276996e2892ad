use Rattle.std.proofs.Common.{cond, ap, sym, ◌∙◌}
use Rattle.std.specs.Prelude.{None}
use Rattle.bb_ast.specs.Inside.Views.{module_view}
use Rattle.bb_names.specs.Declarations.{direction_of}
use Rattle.bb_names.proofs.IndexLemmas.{direction-at}
use Rattle.bb_names.proofs.indexed.IndexedModule.port_direction.Goals as goal

pub returns-then-is_port : goal.returns-then-is_port
returns-then-is_port c =
    let m = module_view c.args.self.now in
    let n = c.args.name.now in
    c.facts.ensures.dir ∙ sym (direction-at m n ∙ ap (λ b. cond b (direction_of m n) None) (sym c.is_port.ensures ∙ c.if-is_port.true))

pub returns-else-is_port : goal.returns-else-is_port
returns-else-is_port c =
    let m = module_view c.args.self.now in
    let n = c.args.name.now in
    sym (direction-at m n ∙ ap (λ b. cond b (direction_of m n) None) (sym c.is_port.ensures ∙ c.if-is_port.false))
