use Rattle.std.proofs.Common.{◌≡◌, ◌<◌, ◌-◌, ℕ, Option, Some, None, get_or, refl, sym, ap, subst, arith}
use Rattle.bb_uniq.specs.Inside.Cofactors.{top_of, variable_seen}
use Rattle.bb_uniq.specs.Inside.Meaning.{truth_of}
use Rattle.bb_mux.specs.Inside.Functions.{DependsOnFirst}
use Rattle.bb_mux.proofs.Children.{IsNode, hi_depends, hi_ref, lo_depends, lo_ref, within}
use Rattle.bb_mux.proofs.GateBits.{begins}
use Rattle.bb_mux.proofs.Given.{Given}
use Rattle.bb_mux.proofs.Walking.{computes_node, room, still_computes, walks_node, walks_none}
use Rattle.bb_mux.proofs.walk.+place_of.Goals as goal
use Rattle.bb_mux.proofs.walk.+place_of.Goals.{In-Node}

pub returns-in_default-view-clause-walks : goal.returns-in_default-view-clause-walks
returns-in_default-view-clause-walks t c = walks_none _ _ _ _ c.keeps_its_order.ensures c.requires.walked

given : (t : ℕ) (c : In-Node t) → Given
given t c = record {
  tables = c.tables.ensures;
  beads = c.beads.ensures;
  sizes = c.sizes.ensures;
  stores = c.stores.ensures;
  steps = c.steps.ensures;
  gates = c.bits.ensures.gates;
  stay = c.bits.ensures.stay;
}

node : (t : ℕ) (c : In-Node t) → IsNode c.args.d.now.store c.args.r.0 c.in-Node.var c.in-Node.lo c.in-Node.hi
node t c = record {
  store = c.is_canonical.ensures.sound.store;
  ref = c.requires.r;
  view = sym c.in-Node.ensures.view;
  means = c.in-Node.ensures.table;
}

inside : (t : ℕ) (c : In-Node t) → c.in-Node.var < c.args.net.now.inputs
inside t c = within (given t c) c.args.d.now.store c.args.r.0 c.in-Node.var c.in-Node.lo c.in-Node.hi (node t c) c.args.net.now.inputs c.requires.depends

pub place_of-requires : goal.place_of-requires
place_of-requires t c =
    let at = (goal.at.place_of-requires t c).In-Node in
    let s = c.args.d.now.store in
    let r = c.args.r.0 in
    let v = c.in-Node.var in
    let lo = c.in-Node.lo in
    let hi = c.in-Node.hi in
    let means = c.in-Node.ensures.table in
    let top : top_of s r ≡ v = ap (variable_seen s.vars) (sym c.in-Node.ensures.view) in
    let later = c.stores.ensures.top_below s v lo.0 means.0 means.1 in
    let less : s.vars - top_of s lo.0 < t = omega (arith, c.decreases, top, later, means.0) in
    (less, (lo_ref (given t at) s r v lo hi (node t at), (lo_depends (given t at) s r v lo hi (node t at) c.args.net.now.inputs c.requires.depends, c.requires.walked)))

pub place_of-requires-2 : goal.place_of-requires-2
place_of-requires-2 t c =
    let at = (goal.at.place_of-requires-2 t c).In-Node in
    let s = c.args.d.now.store in
    let r = c.args.r.0 in
    let v = c.in-Node.var in
    let lo = c.in-Node.lo in
    let hi = c.in-Node.hi in
    let means = c.in-Node.ensures.table in
    let low = c.in_ok-low.ensures.walks in
    let top : top_of s r ≡ v = ap (variable_seen s.vars) (sym c.in-Node.ensures.view) in
    let later = c.stores.ensures.top_below s v hi.0 means.0 means.2 in
    let less : s.vars - top_of s hi.0 < t = omega (arith, c.decreases, top, later, means.0) in
    let depends = subst (λ k. DependsOnFirst s.vars k (truth_of s hi.0)) (sym low.extends.inputs) (hi_depends (given t at) s r v lo hi (node t at) c.args.net.now.inputs c.requires.depends) in
    (less, (hi_ref (given t at) s r v lo hi (node t at), (depends, low.walked)))

pub overflow_add-var : goal.overflow_add-var
overflow_add-var t c =
    let at = (goal.at.overflow_add-var t c).In-Node in
    let l = inside t at in
    omega (arith, l, c.requires.walked.room)

pub add_choice-requires-clause-c : goal.add_choice-requires-clause-c
add_choice-requires-clause-c t c =
    let at = (goal.at.add_choice-requires-clause-c t c).In-Node in
    let l = inside t at in
    let low = c.in_ok-low.ensures.walks in
    let high = c.in_ok-high.ensures.walks in
    omega (arith, l, low.extends.inputs, high.extends.inputs, begins c.place_of-2.new.net high.extends.after)

no_place : (o : Option ℕ) → ((place : ℕ) → o ≡ Some place → ⊥) → o ≡ None
no_place None h = refl
no_place (Some place) h = absurd (h place refl)

pub add_choice-requires-clause-room : goal.add_choice-requires-clause-room
add_choice-requires-clause-room t c =
    let at = (goal.at.add_choice-requires-clause-room t c).In-Node in
    let none = no_place (get_or c.args.places.now c.args.r.0 None) c.in_default.not-Some in
    room (given t at) c.args.d.now.store c.args.r.0 c.in-Node.var c.in-Node.lo c.in-Node.hi (node t at) c.args.net.now c.place_of.new.net c.place_of-2.new.net c.args.places.now c.place_of.new.places c.place_of-2.new.places
    none c.requires.walked c.in_ok-low.ensures.walks c.in_ok-high.ensures.walks c.len.result c.len.ensures.nodes c.len.ensures.beads

pub returns-clause-place : goal.returns-clause-place
returns-clause-place t c =
    let at = (goal.at.returns-clause-place t c).In-Node in
    let s = c.args.d.now.store in
    let net = c.place_of-2.new.net in
    let low = c.in_ok-low.ensures.walks in
    let high = c.in_ok-high.ensures.walks in
    let l = inside t at in
    let at_lo = still_computes c.bits.ensures.stay s c.place_of.new.net net high.most c.in-Node.lo.0 c.in_ok-low.low high.extends c.in_ok-low.ensures.place in
    computes_node (given t at) s c.args.r.0 c.in-Node.var c.in-Node.lo c.in-Node.hi (node t at) net c.add_choice.new.net c.in_ok-low.low c.in_ok-high.high c.in_ok-place.place (omega (arith, l, low.extends.inputs, high.extends.inputs))
    at_lo c.in_ok-high.ensures.place c.in_ok-place.ensures.extends c.in_ok-place.ensures.gives

pub returns-clause-walks : goal.returns-clause-walks
returns-clause-walks t c =
    let at = (goal.at.returns-clause-walks t c).In-Node in
    let s = c.args.d.now.store in
    let net = c.place_of-2.new.net in
    let low = c.in_ok-low.ensures.walks in
    let high = c.in_ok-high.ensures.walks in
    let l = inside t at in
    let none = no_place (get_or c.args.places.now c.args.r.0 None) c.in_default.not-Some in
    let at_lo = still_computes c.bits.ensures.stay s c.place_of.new.net net high.most c.in-Node.lo.0 c.in_ok-low.low high.extends c.in_ok-low.ensures.place in
    let computes = computes_node (given t at) s c.args.r.0 c.in-Node.var c.in-Node.lo c.in-Node.hi (node t at) net c.add_choice.new.net c.in_ok-low.low c.in_ok-high.high c.in_ok-place.place (omega (arith, l, low.extends.inputs, high.extends.inputs))
    at_lo c.in_ok-high.ensures.place c.in_ok-place.ensures.extends c.in_ok-place.ensures.gives in
    walks_node (given t at) s c.args.r.0 c.in-Node.var c.in-Node.lo c.in-Node.hi (node t at) c.args.net.now c.place_of.new.net net c.args.places.now c.place_of.new.places c.place_of-2.new.places
    none c.requires.walked low high c.add_choice.new.net c.in_ok-place.place c.in_ok-place.ensures.extends computes
