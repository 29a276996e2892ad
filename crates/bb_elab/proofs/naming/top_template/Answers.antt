use Rattle.std.proofs.Common.{length, refl, sym, ap, ◌∙◌, arith}
use Rattle.std.specs.Prelude.{slice_get}
use Rattle.std.proofs.lemmas.Option.{slice_get_read}
use Rattle.bb_design.specs.Hierarchy.{root}
use Rattle.bb_elab.proofs.NamedScopes.{module_within, top_placed, top_inputs_at, top_outputs_at}
use Rattle.bb_elab.proofs.naming.top_template.Goals as goal

pub template_of-requires : goal.template_of-requires
template_of-requires c =
    let given = c.requires.design in
    let g = c.args.elaborated.now in
    let p = c.index.result.now in
    let there = slice_get_read g.placed.items (length g.placed.items) 0 p refl (top_placed given.0 given.1 g given.2) c.index.ensures in
    let within = module_within given.0 given.1 g given.2 0 (root given.1) refl p there in
    record { there = omega (arith, within, ap length c.deref.ensures.value) }

pub returns : goal.returns
returns c =
    let g = c.args.elaborated.now in
    let p = c.index.result.now in
    let kept = sym (ap (λ l. slice_get l p.module) c.deref.ensures.value) ∙ c.template_of.ensures.template in
    record {
      inputs = λ text d has. top_inputs_at text d g has p (slice_get_read g.placed.items (length g.placed.items) 0 p refl (top_placed text d g has) c.index.ensures) c.template_of.result.now kept;
      outputs = λ text d has. top_outputs_at text d g has p (slice_get_read g.placed.items (length g.placed.items) 0 p refl (top_placed text d g has) c.index.ensures) c.template_of.result.now kept;
    }
