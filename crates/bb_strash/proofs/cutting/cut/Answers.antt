use Rattle.std.proofs.Common.{ℕ, List, ap, ◌∙◌, subst}
use Rattle.bb_net.specs.Netlists.{Netlist}
use Rattle.bb_strash.specs.Inside.Parts.{IsMoved}
use Rattle.bb_strash.proofs.Cut.{moved_there, window_is}
use Rattle.bb_strash.proofs.cutting.cut.Goals as goal

pub with_output-requires-clause-there : goal.with_output-requires-clause-there
with_output-requires-clause-there c =
    let places = c.add_gates.new.places.items in
    let moved : IsMoved c.args.cells.now places c.args.place c.in-Some.root = subst (λ (l : List ℕ). IsMoved c.args.cells.now l c.args.place c.in-Some.root) c.deref.ensures.value c.in-Some.ensures in
    moved_there c.bits.ensures.gates c.bits.ensures.stay c.args.net.now c.keeps_its_order.ensures c.requires.none c.args.leaves.now c.args.cells.now c.add_gates.new.hashed places c.in_ok-add_gates.ensures.cut c.args.place c.in-Some.root moved

pub returns : goal.returns
returns c =
    let places = c.add_gates.new.places.items in
    let moved : IsMoved c.args.cells.now places c.args.place c.in-Some.root = subst (λ (l : List ℕ). IsMoved c.args.cells.now l c.args.place c.in-Some.root) c.deref.ensures.value c.in-Some.ensures in
    let extends = c.in_ok-add_gates.ensures.extends in
    let start = ap (λ (n : Netlist). n.inputs) c.in_ok-hashed.ensures.start in
    window_is c.bits.ensures.gates c.bits.ensures.stay c.args.net.now c.keeps_its_order.ensures c.requires.none c.args.leaves.now c.args.cells.now c.add_gates.new.hashed c.in_ok-part.part c.args.place c.in-Some.root places
    c.in_ok-add_gates.ensures.cut moved (extends.inputs ∙ start) extends.boxes c.in_ok-part.ensures.net
