use Rattle.std.proofs.Common.{◌∙◌, Option, Some, None, sym, ap, arith}
use Rattle.std.specs.Prelude.{IfSome}
use Rattle.std.proofs.lemmas.Option.{slice_get_within, get_or_from_slice_get}
use Rattle.bb_names.specs.declared.net.NetInfo.{NetInfo}
use Rattle.bb_names.specs.Inside.Checked.{module_facts, syntax}
use Rattle.bb_names.specs.Nets.{net_of}
use Rattle.bb_blast.proofs.PortNets.{net_found, net_has, no_port}
use Rattle.bb_blast.proofs.connecting.port_direction.Goals as goal

if_some : {A : Type 0} (P : Type 0) (o : Option A) → P → IfSome o (λ x. P)
if_some P None p = tt
if_some P (Some x) p = p

pub index-requires : goal.index-requires
index-requires c =
    let found = net_found c.laws_of_designs.ensures (module_facts c.args.scope.now) c.requires.nets c.args.name.now c.in-Some.place.now (sym c.in-Some.ensures.value) in
    omega (arith, slice_get_within c.args.scope.now.nets.items c.in-Some.place.now (net_of (syntax (module_facts c.args.scope.now)) c.args.name.now) found, c.args.scope.now.nets.ok)

pub returns-in-Some-clause-direction : goal.returns-in-Some-clause-direction
returns-in-Some-clause-direction c =
    let net = net_of (syntax (module_facts c.args.scope.now)) c.args.name.now in
    let found = net_found c.laws_of_designs.ensures (module_facts c.args.scope.now) c.requires.nets c.args.name.now c.in-Some.place.now (sym c.in-Some.ensures.value) in
    ap (λ (x : NetInfo). x.port) (c.index.ensures ∙ get_or_from_slice_get c.args.scope.now.nets.items c.in-Some.place.now net c.index.result.now found)

pub returns-in-Some-clause-has : goal.returns-in-Some-clause-has
returns-in-Some-clause-has c = if_some _ c.index.result.now.port (net_has c.laws_of_designs.ensures (module_facts c.args.scope.now) c.requires.nets c.args.name.now c.in-Some.place.now (sym c.in-Some.ensures.value))

pub returns-in-None-clause-direction : goal.returns-in-None-clause-direction
returns-in-None-clause-direction c = sym (no_port c.laws_of_designs.ensures (module_facts c.args.scope.now) c.requires.nets c.args.name.now (sym c.in-None.ensures.value))
