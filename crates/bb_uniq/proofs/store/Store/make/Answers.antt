use Rattle.std.proofs.Common.{◌+◌, ◌<◌, ◌≤◌, ◌≡◌, ◌≢◌, length, arith, rules, sym, ◌∙◌}
use Rattle.std.specs.Prelude.{IsErrOf}
use Rattle.std.proofs.lemmas.Bool.{eqb-true, eqb-false}
use Rattle.bb_uniq.specs.declared.store.StoreFault.TheVariants.{Full}
use Rattle.bb_uniq.specs.declared.store.Node.{Node}
use Rattle.bb_uniq.specs.Inside.Nodes.{NodeStore, IsStore}
use Rattle.bb_uniq.specs.Inside.Meaning.{Adds, branch}
use Rattle.bb_uniq.specs.Inside.Places.{IsAbsent}
use Rattle.bb_uniq.proofs.Making.{makes, makes_same, makes_too_many, occurs_within}
use Rattle.bb_uniq.proofs.store.Store.make.Goals as goal
use Rattle.bb_uniq.proofs.store.Store.make.Goals.{In_ok-place}

pub returns-then-eq-clause-adds : goal.returns-then-eq-clause-adds
returns-then-eq-clause-adds c =
    let i = c.self.inside in
    let s : NodeStore = record { vars = i.vars; limit = i.limit; nodes = i.nodes.items } in
    let same : c.args.lo.0 ≡ c.args.hi.0 = eqb-true c.args.lo.0 c.args.hi.0 (sym c.eq.ensures ∙ c.if-eq.true) in
    (makes_same (record { tables = c.tables.ensures; beads = c.beads.ensures; sizes = c.sizes.ensures }) s c.args.self.now c.self.view_is c.self.invariant.0 c.args.var c.args.lo.0 c.args.hi.0 c.requires.var c.requires.lo c.requires.hi same).1

pub returns-then-eq-clause-store : goal.returns-then-eq-clause-store
returns-then-eq-clause-store c =
    let i = c.self.inside in
    let s : NodeStore = record { vars = i.vars; limit = i.limit; nodes = i.nodes.items } in
    let same : c.args.lo.0 ≡ c.args.hi.0 = eqb-true c.args.lo.0 c.args.hi.0 (sym c.eq.ensures ∙ c.if-eq.true) in
    (makes_same (record { tables = c.tables.ensures; beads = c.beads.ensures; sizes = c.sizes.ensures }) s c.args.self.now c.self.view_is c.self.invariant.0 c.args.var c.args.lo.0 c.args.hi.0 c.requires.var c.requires.lo c.requires.hi same).0

pub returns-in_err-place-clause-too_many : goal.returns-in_err-place-clause-too_many
returns-in_err-place-clause-too_many c =
    let i = c.self.inside in
    let s : NodeStore = record { vars = i.vars; limit = i.limit; nodes = i.nodes.items } in
    let node : Node = record { var = c.args.var; lo = c.args.lo.0; hi = c.args.hi.0 } in
    let differ : c.args.lo.0 ≢ c.args.hi.0 = eqb-false c.args.lo.0 c.args.hi.0 (sym c.eq.ensures ∙ c.if-eq.false) in
    let reported : IsErrOf c.from_residual.result Full → (s.limit ≤ length s.nodes) × IsAbsent s.nodes node = search rules in
    λ full.
    let said = reported full in
    makes_too_many (record { tables = c.tables.ensures; beads = c.beads.ensures; sizes = c.sizes.ensures }) s c.args.self.now c.self.view_is c.self.invariant.0 c.args.var c.args.lo.0 c.args.hi.0 c.requires.var c.requires.lo c.requires.hi differ said.0 said.1

pub overflow_cast-result : goal.overflow_cast-result
overflow_cast-result c =
    let i = c.self.inside in
    let s : NodeStore = record { vars = i.vars; limit = i.limit; nodes = i.nodes.items } in
    let l : c.in_ok-place.place < s.limit = occurs_within s c.self.invariant.0 c.place_of.new.nodes.items _ c.in_ok-place.place c.in_ok-place.ensures.ok in
    omega (arith, l, c.self.invariant.2)

pub overflow_add-result : goal.overflow_add-result
overflow_add-result c =
    let i = c.self.inside in
    let s : NodeStore = record { vars = i.vars; limit = i.limit; nodes = i.nodes.items } in
    let l : c.in_ok-place.place < s.limit = occurs_within s c.self.invariant.0 c.place_of.new.nodes.items _ c.in_ok-place.place c.in_ok-place.ensures.ok in
    omega (arith, l, c.self.invariant.2)

-- what the look-up gave, as a store
made : (c : In_ok-place) → let new : NodeStore = record { vars = c.self.inside.vars; limit = c.self.inside.limit; nodes = c.place_of.new.nodes.items } in
    IsStore new × Adds c.args.self.now new (branch c.args.self.now c.args.var c.args.lo.0 c.args.hi.0) (c.in_ok-place.place + 2)
made c =
    let i = c.self.inside in
    let s : NodeStore = record { vars = i.vars; limit = i.limit; nodes = i.nodes.items } in
    let differ : c.args.lo.0 ≢ c.args.hi.0 = eqb-false c.args.lo.0 c.args.hi.0 (sym c.eq.ensures ∙ c.if-eq.false) in
    makes (record { tables = c.tables.ensures; beads = c.beads.ensures; sizes = c.sizes.ensures }) s c.args.self.now c.self.view_is c.self.invariant.0 c.place_of.new.nodes.items c.args.var c.args.lo.0 c.args.hi.0 c.in_ok-place.place c.requires.var c.requires.lo c.requires.hi differ c.in_ok-place.ensures.ok

pub invariant_of-self-2 : goal.invariant_of-self-2
invariant_of-self-2 c = ((made c).0, c.self.invariant.1, c.self.invariant.2, c.in_ok-place.ensures.node_room, c.in_ok-place.ensures.places, c.in_ok-place.ensures.room)

pub returns-clause-adds : goal.returns-clause-adds
returns-clause-adds c = (made c).1

pub returns-clause-store : goal.returns-clause-store
returns-clause-store c = (made c).0
