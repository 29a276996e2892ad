use Rattle.std.proofs.Common.{◌≡◌, ◌+◌, ◌<◌, All, length, map, sym, ap, ◌∙◌, subst, arith}
use Rattle.std.specs.List.{AllZip}
use Rattle.std.proofs.lemmas.Result.{IfOk-weaker}
use Rattle.bb_net.specs.Netlists.{Netlist}
use Rattle.bb_uniq.specs.declared.store.Ref.{Ref}
use Rattle.bb_uniq.specs.Inside.Meaning.{truth_of}
use Rattle.bb_mux.specs.Inside.Functions.{Computes}
use Rattle.bb_mux.specs.Inside.Walks.{AreWalked}
use Rattle.bb_mux.proofs.GateBits.{first_long}
use Rattle.bb_mux.proofs.Roots.{as_many, none_walked, outs_compute, outs_there}
use Rattle.bb_mux.proofs.netlist.netlist_of.Goals as goal

pub places_of-requires-clause-walked : goal.places_of-requires-clause-walked
places_of-requires-clause-walked c =
    let s = c.args.d.now.store in
    let net = c.in_ok-net.net in
    let is = c.in_ok-net.ensures.ok in
    let inputs = ap (λ (n : Netlist). n.inputs) is in
    let start : length net.cells ≡ net.inputs + 2 = ap (λ (n : Netlist). length n.cells) is ∙ first_long c.args.inputs ∙ sym (ap (λ n. n + 2) inputs) in
    let ts = map (λ (r : Ref). truth_of s r.0) c.args.roots.now in
    subst (AreWalked s ts net) (sym (c.as_mut_slice.ensures.value ∙ c.in_ok-places.ensures))
    (none_walked s ts net _ (ap (λ (n : Netlist). n.boxes) is) start (omega (arith, c.requires.room, inputs)) (omega (arith, c.len.ensures.nodes)))

pub with_outs-requires-clause-there : goal.with_outs-requires-clause-there
with_outs-requires-clause-there c =
    subst (All (λ place. place < length c.places_of.new.net.cells)) (sym c.deref.ensures.value) (outs_there c.args.d.now.store c.places_of.new.net c.args.roots.now c.in_ok-outs.outs.items c.in_ok-outs.ensures.computed)

pub returns-clause-outs : goal.returns-clause-outs
returns-clause-outs c =
    let s = c.args.d.now.store in
    let net = c.places_of.new.net in
    let roots = c.args.roots.now in
    let computed = subst (AllZip (λ (r : Ref). Computes s net r.0) roots) (sym c.deref.ensures.value) c.in_ok-outs.ensures.computed in
    IfOk-weaker c.with_outs.result _ _ (λ all is. as_many s net all roots c.deref.result.now computed is) c.with_outs.ensures

pub returns-clause-values : goal.returns-clause-values
returns-clause-values c =
    let s = c.args.d.now.store in
    let net = c.places_of.new.net in
    let roots = c.args.roots.now in
    let computed = subst (AllZip (λ (r : Ref). Computes s net r.0) roots) (sym c.deref.ensures.value) c.in_ok-outs.ensures.computed in
    let inputs = sym (c.in_ok-outs.ensures.extends.1.inputs ∙ ap (λ (n : Netlist). n.inputs) c.in_ok-net.ensures.ok) in
    IfOk-weaker c.with_outs.result _ _ (λ all is point j r long at. outs_compute s net all roots c.deref.result.now computed is c.args.inputs point j r inputs long at) c.with_outs.ensures

pub returns-clause-few : goal.returns-clause-few
returns-clause-few c =
    let few = c.in_ok-outs.ensures.few in
    IfOk-weaker c.with_outs.result _ _ (λ all is n most. let l = few n most in omega (arith, l, ap (λ (m : Netlist). length m.cells) is, ap (λ (m : Netlist). m.inputs) is)) c.with_outs.ensures
