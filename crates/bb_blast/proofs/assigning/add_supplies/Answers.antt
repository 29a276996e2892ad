use Rattle.std.proofs.Common.{map, refl}
use Rattle.std.specs.Prelude.{slice_get}
use Rattle.std.proofs.lemmas.Option.{slice_get_within}
use Rattle.bb_ast.specs.Syntax.{Net}
use Rattle.bb_names.specs.Inside.Checked.{module_facts}
use Rattle.bb_expr.specs.Inside.Fit.{AreFit, IsFit}
use Rattle.bb_design.specs.Constructs.{SupplyNet}
use Rattle.bb_design.specs.NetBits.{bits_named}
use Rattle.bb_blast.specs.Inside.BitBlasting.{IsMakeable, IsPartAt}
use Rattle.bb_blast.proofs.LeftBits.{fit_here}
use Rattle.bb_blast.proofs.ModulePlaces.{at_some, some_and, bits_meant}
use Rattle.bb_lemmas.proofs.Turns.{all_here, zip_next, zip_begin, zip_end}
use Rattle.bb_blast.proofs.assigning.add_supplies.Goals as goal

fits : (c : goal.After-net_bits-arg-1) → IsFit (module_facts c.scope_at-scope.result.now) (Net c.name-item.result)
fits c =
    let f = module_facts c.scope_at-scope.result.now in
    let makeable = all_here (IsMakeable c.args.context.checked.now c.args.context.module) (SupplyNet c.args.high) c.args.names.now c.loop-name.name-index c.name-item.result c.loop-name-test.true c.name-item.is c.requires.makeable in
    fit_here f (Net c.name-item.result) (at_some (λ m. AreFit m (Net c.name-item.result)) (slice_get c.args.context.checked.now c.args.context.module) f c.scope_at-scope.ensures.there makeable.fits)

pub scope_at-scope-requires : goal.scope_at-scope-requires
scope_at-scope-requires c =
    let makeable = all_here (IsMakeable c.args.context.checked.now c.args.context.module) (SupplyNet c.args.high) c.args.names.now c.loop-name.name-index c.name-item.result c.loop-name-test.true c.name-item.is c.requires.makeable in
    let f = some_and (λ m. AreFit m (Net c.name-item.result)) (slice_get c.args.context.checked.now c.args.context.module) makeable.fits in
    record { there = slice_get_within c.args.context.checked.now c.args.context.module f.0 f.1 }

pub net_bits-requires-clause-has : goal.net_bits-requires-clause-has
net_bits-requires-clause-has c = (fits c).right

pub loop-name-init : goal.loop-name-init
loop-name-init c = λ before all. zip_begin (IsPartAt c.args.context.checked.now c.args.context.module) before c.args.parts.now.items all

pub loop-name-preserved : goal.loop-name-preserved
loop-name-preserved c = λ before all. zip_next (IsPartAt c.args.context.checked.now c.args.context.module) (SupplyNet c.args.high) c.args.names.now c.loop-name.name-index c.name-item.result c.loop-name-test.true c.name-item.is before
    c.loop-name.parts.items c.push.new.self.items _ (c.loop-name.invariant before all)
    (refl, bits_meant c.args.context.checked.now c.args.context.module (module_facts c.scope_at-scope.result.now) c.scope_at-scope.ensures.there c.in_ok-bits.bits.items (λ s. bits_named s c.name-item.result) c.in_ok-bits.ensures.bits) c.in_ok-push.ensures.items

pub returns : goal.returns
returns c = record { parts = λ before all. zip_end (IsPartAt c.args.context.checked.now c.args.context.module) (map (SupplyNet c.args.high)) c.args.names.now c.loop-name.name-index before c.loop-name.parts.items c.loop-name-test.false (c.loop-name.invariant before all) }
