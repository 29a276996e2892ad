use Rattle.std.proofs.Common.{◌≡◌, ◌-◌, ◌<◌, ◌++◌, ℕ, List, Some, length, map, refl, sym, ap, ◌∙◌, arith}
use Rattle.std.specs.Prelude.{slice_get}
use Rattle.std.proofs.lemmas.Option.{slice_get_read, slice_get_within, get_or_from_slice_get}
use Rattle.std.proofs.lemmas.Result.{on_ok_weaker}
use Rattle.bb_names.specs.Inside.Checked.{ModuleFacts, module_facts, syntax}
use Rattle.bb_blast.specs.declared.placed.Placed.{Placed}
use Rattle.bb_design.specs.Hierarchy.{Design, scopes}
use Rattle.bb_design.specs.NetBits.{net_order}
use Rattle.bb_blast.specs.Inside.ModuleTemplates.{net_start}
use Rattle.bb_blast.specs.Inside.Placements.{ArePlaced}
use Rattle.bb_elab.proofs.BitNames.{own_nets, starts_each, local_there, pin_named}
use Rattle.bb_lemmas.proofs.Places.{some_at}
use Rattle.bb_elab.proofs.texts.add_pin.Goals as goal
use Rattle.bb_blast.specs.Laws.ModuleLaws.{ModuleLaws}

module_below : ModuleLaws → (checked : List ModuleFacts) (all : List Placed) (d : Design) → d.text ≡ map syntax checked → ArePlaced d all → (k : ℕ) (p : Placed) → slice_get all k ≡ Some p → p.module < length checked
module_below of_modules checked all d text are k p there =
    let s = some_at (scopes d) k (omega (arith, slice_get_within all k p there, are.count)) in
    (of_modules.checked checked p.module s.0.source (ap (λ l. slice_get l p.module) (sym text) ∙ (are.each k s.0 p s.1 there).source)).0

pub scope_of_module-module-requires : goal.scope_of_module-module-requires
scope_of_module-module-requires c =
    let d = c.requires.design in
    let all = c.args.placed.now in
    let k = c.scope_of_bit-scope.result in
    let p = c.index-placed-scope.result in
    let there = slice_get_read all (length all) k p refl c.scope_of_bit-scope.ensures.there c.index-placed-scope.is in
    record { there = module_below c.laws_of_modules.ensures c.args.checked.now all d.0 d.1 d.2 k p there }

pub template_of_module-template-requires : goal.template_of_module-template-requires
template_of_module-template-requires c =
    let d = c.requires.design in
    let all = c.args.placed.now in
    let k = c.scope_of_bit-scope.result in
    let p = c.index-placed-scope.result in
    let there = slice_get_read all (length all) k p refl c.scope_of_bit-scope.ensures.there c.index-placed-scope.is in
    let s = some_at (scopes d.0) k (omega (arith, slice_get_within all k p there, d.2.count)) in
    let o = d.3 k s.0 p s.1 there in
    record { there = slice_get_within c.args.templates.now p.module o.0 o.1 }

pub overflow_sub-local : goal.overflow_sub-local
overflow_sub-local c =
    let d = c.requires.design in
    let all = c.args.placed.now in
    let k = c.scope_of_bit-scope.result in
    let p = c.index-placed-scope.result in
    let there = slice_get_read all (length all) k p refl c.scope_of_bit-scope.ensures.there c.index-placed-scope.is in
    let s = some_at (scopes d.0) k (omega (arith, slice_get_within all k p there, d.2.count)) in
    let b = some_at (net_order d.0) c.args.number d.4 in
    (c.scope_of_bit-scope.ensures.bit d.0 d.2 s.0 s.1 p there b.0 b.1).0

pub net_of_bit-k-requires : goal.net_of_bit-k-requires
net_of_bit-k-requires c =
    let d = c.requires.design in
    let all = c.args.placed.now in
    let checked = c.args.checked.now in
    let k = c.scope_of_bit-scope.result in
    let p = c.index-placed-scope.result in
    let there = slice_get_read all (length all) k p refl c.scope_of_bit-scope.ensures.there c.index-placed-scope.is in
    let ok = c.scope_of_module-module.ensures.checked in
    let s = some_at (scopes d.0) k (omega (arith, slice_get_within all k p there, d.2.count)) in
    let b = some_at (net_order d.0) c.args.number d.4 in
    let bit = c.scope_of_bit-scope.ensures.bit d.0 d.2 s.0 s.1 p there b.0 b.1 in
    let own = c.deref.ensures.value ∙ own_nets c.laws_of_designs.ensures c.laws_of_modules.ensures checked ok all c.args.templates.now d.0 d.1 d.2 k s.0 s.1 p there (module_facts c.scope_of_module-module.result.now) c.scope_of_module-module.ensures.there in
    record {
      starts = starts_each c.laws_of_designs.ensures c.laws_of_modules.ensures checked ok all c.args.templates.now d.0 d.1 d.2 k s.0 s.1 p there d.3 c.template_of_module-template.result.now c.template_of_module-template.ensures.there c.deref.result.now c.deref-2.result.now own c.deref-2.ensures.value;
      there = local_there c.laws_of_designs.ensures c.laws_of_modules.ensures checked ok all c.args.templates.now d.0 d.1 d.2 k s.0 s.1 p there d.3 c.template_of_module-template.result.now c.template_of_module-template.ensures.there c.deref.result.now c.deref-2.result.now own c.deref-2.ensures.value (c.args.number - p.first) b.0 bit.1;
    }

pub index-requires : goal.index-requires
index-requires c =
    let d = c.requires.design in
    let all = c.args.placed.now in
    let checked = c.args.checked.now in
    let k = c.scope_of_bit-scope.result in
    let p = c.index-placed-scope.result in
    let there = slice_get_read all (length all) k p refl c.scope_of_bit-scope.ensures.there c.index-placed-scope.is in
    let ok = c.scope_of_module-module.ensures.checked in
    let s = some_at (scopes d.0) k (omega (arith, slice_get_within all k p there, d.2.count)) in
    let own = c.deref.ensures.value ∙ own_nets c.laws_of_designs.ensures c.laws_of_modules.ensures checked ok all c.args.templates.now d.0 d.1 d.2 k s.0 s.1 p there (module_facts c.scope_of_module-module.result.now) c.scope_of_module-module.ensures.there in
    let each = starts_each c.laws_of_designs.ensures c.laws_of_modules.ensures checked ok all c.args.templates.now d.0 d.1 d.2 k s.0 s.1 p there d.3 c.template_of_module-template.result.now c.template_of_module-template.ensures.there c.deref.result.now c.deref-2.result.now own c.deref-2.ensures.value in
    let j = c.net_of_bit-k.result in
    let jt = c.net_of_bit-k.ensures.there in
    let here = each j jt in
    omega (arith, slice_get_within c.deref-2.result.now j (net_start c.deref.result.now j) here, ap length c.deref-2.ensures.value, c.template_of_module-template.result.now.starts.ok)

pub overflow_sub-place : goal.overflow_sub-place
overflow_sub-place c =
    let d = c.requires.design in
    let all = c.args.placed.now in
    let checked = c.args.checked.now in
    let k = c.scope_of_bit-scope.result in
    let p = c.index-placed-scope.result in
    let there = slice_get_read all (length all) k p refl c.scope_of_bit-scope.ensures.there c.index-placed-scope.is in
    let ok = c.scope_of_module-module.ensures.checked in
    let s = some_at (scopes d.0) k (omega (arith, slice_get_within all k p there, d.2.count)) in
    let own = c.deref.ensures.value ∙ own_nets c.laws_of_designs.ensures c.laws_of_modules.ensures checked ok all c.args.templates.now d.0 d.1 d.2 k s.0 s.1 p there (module_facts c.scope_of_module-module.result.now) c.scope_of_module-module.ensures.there in
    let each = starts_each c.laws_of_designs.ensures c.laws_of_modules.ensures checked ok all c.args.templates.now d.0 d.1 d.2 k s.0 s.1 p there d.3 c.template_of_module-template.result.now c.template_of_module-template.ensures.there c.deref.result.now c.deref-2.result.now own c.deref-2.ensures.value in
    let j = c.net_of_bit-k.result in
    let jt = c.net_of_bit-k.ensures.there in
    let here = each j jt in
    let nets = c.scope_of_module-module.result.now.nets.items in
    let net = c.index-net.result.now in
    let at = ap (λ l. slice_get l j) c.deref.ensures.value ∙ slice_get_read nets (length nets) j net refl (omega (arith, jt, ap length c.deref.ensures.value)) c.index-net.ensures in
    let within = c.net_of_bit-k.ensures.bit net at in
    let start = c.index.ensures ∙ get_or_from_slice_get c.template_of_module-template.result.now.starts.items j (net_start c.deref.result.now j) c.index.result.now (ap (λ l. slice_get l j) (sym c.deref-2.ensures.value) ∙ here) in
    omega (arith, within.0, start)

pub add_net_bit-requires : goal.add_net_bit-requires
add_net_bit-requires c =
    let d = c.requires.design in
    let all = c.args.placed.now in
    let checked = c.args.checked.now in
    let k = c.scope_of_bit-scope.result in
    let p = c.index-placed-scope.result in
    let there = slice_get_read all (length all) k p refl c.scope_of_bit-scope.ensures.there c.index-placed-scope.is in
    let ok = c.scope_of_module-module.ensures.checked in
    let s = some_at (scopes d.0) k (omega (arith, slice_get_within all k p there, d.2.count)) in
    let own = c.deref.ensures.value ∙ own_nets c.laws_of_designs.ensures c.laws_of_modules.ensures checked ok all c.args.templates.now d.0 d.1 d.2 k s.0 s.1 p there (module_facts c.scope_of_module-module.result.now) c.scope_of_module-module.ensures.there in
    let each = starts_each c.laws_of_designs.ensures c.laws_of_modules.ensures checked ok all c.args.templates.now d.0 d.1 d.2 k s.0 s.1 p there d.3 c.template_of_module-template.result.now c.template_of_module-template.ensures.there c.deref.result.now c.deref-2.result.now own c.deref-2.ensures.value in
    let j = c.net_of_bit-k.result in
    let jt = c.net_of_bit-k.ensures.there in
    let here = each j jt in
    let nets = c.scope_of_module-module.result.now.nets.items in
    let net = c.index-net.result.now in
    let at = ap (λ l. slice_get l j) c.deref.ensures.value ∙ slice_get_read nets (length nets) j net refl (omega (arith, jt, ap length c.deref.ensures.value)) c.index-net.ensures in
    let within = c.net_of_bit-k.ensures.bit net at in
    let start = c.index.ensures ∙ get_or_from_slice_get c.template_of_module-template.result.now.starts.items j (net_start c.deref.result.now j) c.index.result.now (ap (λ l. slice_get l j) (sym c.deref-2.ensures.value) ∙ here) in
    record { within = omega (arith, within.0, within.1, start) }

pub returns : goal.returns
returns c = record {
  pin = λ e text are templated b bit.
      let all = c.args.placed.now in
      let checked = c.args.checked.now in
      let k = c.scope_of_bit-scope.result in
      let p = c.index-placed-scope.result in
      let there = slice_get_read all (length all) k p refl c.scope_of_bit-scope.ensures.there c.index-placed-scope.is in
      let ok = c.scope_of_module-module.ensures.checked in
      let s = some_at (scopes e) k (omega (arith, slice_get_within all k p there, are.count)) in
      let own = c.deref.ensures.value ∙ own_nets c.laws_of_designs.ensures c.laws_of_modules.ensures checked ok all c.args.templates.now e text are k s.0 s.1 p there (module_facts c.scope_of_module-module.result.now) c.scope_of_module-module.ensures.there in
      let each = starts_each c.laws_of_designs.ensures c.laws_of_modules.ensures checked ok all c.args.templates.now e text are k s.0 s.1 p there templated c.template_of_module-template.result.now c.template_of_module-template.ensures.there c.deref.result.now c.deref-2.result.now own c.deref-2.ensures.value in
      let j = c.net_of_bit-k.result in
      let jt = c.net_of_bit-k.ensures.there in
      let here = each j jt in
      let nets = c.scope_of_module-module.result.now.nets.items in
      let net = c.index-net.result.now in
      let at = ap (λ l. slice_get l j) c.deref.ensures.value ∙ slice_get_read nets (length nets) j net refl (omega (arith, jt, ap length c.deref.ensures.value)) c.index-net.ensures in
      let within = c.net_of_bit-k.ensures.bit net at in
      let start = c.index.ensures ∙ get_or_from_slice_get c.template_of_module-template.result.now.starts.items j (net_start c.deref.result.now j) c.index.result.now (ap (λ l. slice_get l j) (sym c.deref-2.ensures.value) ∙ here) in
      let local = c.args.number - p.first in
      let place = local - c.index.result.now in
      on_ok_weaker c.add_net_bit.result (λ is. is ∙ ap (λ l. c.args.text.now.items ++ l)
      (pin_named c.laws_of_designs.ensures c.laws_of_modules.ensures checked ok all c.args.templates.now e text are k s.0 s.1 p there c.deref.result.now own j net at local place (omega (arith, within.0, start)) (omega (arith, within.0, within.1, start)) b (c.scope_of_bit-scope.ensures.bit e are s.0 s.1 p there b bit).1))
      c.add_net_bit.ensures.bit;
}
