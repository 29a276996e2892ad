use Rattle.std.proofs.Common.{◌≡◌, ◌||◌, false, ap, sym, ◌∙◌}
use Rattle.std.specs.Prelude.{is_some}
use Rattle.bb_ast.specs.Inside.Views.{module_view}
use Rattle.bb_names.specs.Declarations.{is_declared, implicit_names}
use Rattle.bb_bits.specs.Earlier.{has_name}
use Rattle.bb_names.proofs.IndexLemmas.{has-once}
use Rattle.bb_names.proofs.indexed.IndexedModule.facts.Goals as goal

pub returns-in-None-clause-known : goal.returns-in-None-clause-known
returns-in-None-clause-known c =
    let m = module_view c.self.inside.module in
    let n = c.args.name.now in
    let nowhere : false ≡ is_declared m n = sym (ap is_some (sym c.summary_of.ensures ∙ c.in-None.is)) ∙ (c.self.invariant.declared n).declared in
    rw (← c.self.view_is) (c.contains.ensures ∙ ap (has_name n) c.self.invariant.implicit ∙ has-once n (implicit_names m) ∙ ap (λ b. b || has_name n (implicit_names m)) nowhere)
