use Rattle.std.proofs.Common.{length, map, refl, sym, ap, ◌∙◌, subst, arith}
use Rattle.std.specs.Prelude.{slice_get}
use Rattle.std.proofs.lemmas.Option.{slice_get_read}
use Rattle.bb_names.specs.Inside.Checked.{syntax}
use Rattle.bb_design.specs.Hierarchy.{scopes}
use Rattle.bb_design.specs.NetBits.{net_order, input_bits, output_bits}
use Rattle.bb_blast.specs.Inside.Placements.{ArePlaced}
use Rattle.bb_elab.proofs.NamedScopes.{module_within, inputs_at, outputs_at, moved_at, box_is}
use Rattle.bb_lemmas.proofs.AtPlaces.{at_below}
use Rattle.bb_lemmas.proofs.Places.{some_at}
use Rattle.bb_elab.proofs.box_names.box_name.Goals as goal

pub template_of-template-requires : goal.template_of-template-requires
template_of-template-requires c =
    let given = c.requires.design in
    let g = c.args.elaborated.now in
    let p = c.index-at.result.now in
    let there = slice_get_read g.placed.items (length g.placed.items) c.args.scope p refl c.requires.there c.index-at.ensures in
    let s = some_at (scopes given.0) c.args.scope (omega (arith, c.requires.there, given.1.elaborated.scopes.count)) in
    let within = module_within (map syntax c.args.checked.now) given.0 g given.1 c.args.scope s.0 s.1 p there in
    record { there = omega (arith, within, ap length c.deref.ensures.value) }

pub pin_names-requires : goal.pin_names-requires
pin_names-requires c =
    let given = c.requires.design in
    let g = c.args.elaborated.now in
    let p = c.index-at.result.now in
    let there = slice_get_read g.placed.items (length g.placed.items) c.args.scope p refl c.requires.there c.index-at.ensures in
    let s = some_at (scopes given.0) c.args.scope (omega (arith, c.requires.there, given.1.elaborated.scopes.count)) in
    let kept = sym (ap (λ l. slice_get l p.module) c.deref.ensures.value) ∙ c.template_of-template.ensures.template in
    let own = inputs_at (map syntax c.args.checked.now) given.0 g given.1 c.args.scope s.0 s.1 p there c.template_of-template.result.now kept in
    let at = moved_at given.0 given.1.finite.bounded.small (input_bits s.0) p.first _ c.deref-2.result.now c.deref-6.result.now own c.deref-2.ensures.value (λ fits. c.deref-6.ensures.value ∙ c.in_ok-ins.ensures.small fits) in
    record { design = (given.0, given.1, at_below (net_order given.0) c.deref-6.result.now (input_bits s.0) at) }

pub pin_names-requires-2 : goal.pin_names-requires-2
pin_names-requires-2 c =
    let given = c.requires.design in
    let g = c.args.elaborated.now in
    let p = c.index-at.result.now in
    let there = slice_get_read g.placed.items (length g.placed.items) c.args.scope p refl c.requires.there c.index-at.ensures in
    let s = some_at (scopes given.0) c.args.scope (omega (arith, c.requires.there, given.1.elaborated.scopes.count)) in
    let kept = sym (ap (λ l. slice_get l p.module) c.deref.ensures.value) ∙ c.template_of-template.ensures.template in
    let own = outputs_at (map syntax c.args.checked.now) given.0 g given.1 c.args.scope s.0 s.1 p there c.template_of-template.result.now kept in
    let at = moved_at given.0 given.1.finite.bounded.small (output_bits s.0) p.first _ c.deref-3.result.now c.deref-7.result.now own c.deref-3.ensures.value (λ fits. c.deref-7.ensures.value ∙ c.in_ok-outs.ensures.small fits) in
    record { design = (given.0, given.1, at_below (net_order given.0) c.deref-7.result.now (output_bits s.0) at) }

pub returns : goal.returns
returns c = record {
  name = λ d has s at.
      let text = map syntax c.args.checked.now in
      let g = c.args.elaborated.now in
      let p = c.index-at.result.now in
      let o = c.template_of-template.result.now in
      let there = slice_get_read g.placed.items (length g.placed.items) c.args.scope p refl c.requires.there c.index-at.ensures in
      let kept = sym (ap (λ l. slice_get l p.module) c.deref.ensures.value) ∙ c.template_of-template.ensures.template in
      let ins = moved_at d has.finite.bounded.small (input_bits s) p.first _ c.deref-2.result.now c.deref-6.result.now (inputs_at text d g has c.args.scope s at p there o kept) c.deref-2.ensures.value (λ fits. c.deref-6.ensures.value ∙ c.in_ok-ins.ensures.small fits) in
      let outs = moved_at d has.finite.bounded.small (output_bits s) p.first _ c.deref-3.result.now c.deref-7.result.now (outputs_at text d g has c.args.scope s at p there o kept) c.deref-3.ensures.value (λ fits. c.deref-7.ensures.value ∙ c.in_ok-outs.ensures.small fits) in
      box_is d s c.of.result c.in_ok-path_name.field-0 c.in_ok-module_name.field-0 c.in_ok-pin_names.field-0.items c.in_ok-pin_names-2.field-0.items c.of.ensures.name (c.in_ok-path_name.ensures.name d (subst (ArePlaced d) (sym c.deref-4.ensures.value) has.elaborated.scopes) s at)
      (c.in_ok-module_name.ensures.name d has.of_text (subst (ArePlaced d) (sym c.deref-5.ensures.value) has.elaborated.scopes) s at)
      (c.in_ok-pin_names.ensures.names d has (input_bits s) ins) (c.in_ok-pin_names-2.ensures.names d has (output_bits s) outs);
}
