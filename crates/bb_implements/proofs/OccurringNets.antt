-- A netlist that implements a design has at its outputs what the cut outputs of the design have in every world.
use Rattle.std.proofs.Common.{◌≡◌, ℕ, ◌<◌, Bool, false, List, [], ◌∷◌, ◌++◌, map, flat_map, length, get_or, Contains, refl, sym, ap, ap₂, ◌∙◌, arith}
use Rattle.std.specs.List.{enumerate_from, range_with_len}
use Rattle.std.proofs.lemmas.List.{map-append, get_or-map}
use Rattle.std.proofs.lemmas.List.Elements.{All-contains}
use Rattle.std.proofs.lemmas.List.FromFn.{length-map-range_with_len, get_or-map-range_with_len}
use Rattle.bb_bits.specs.Contents.{Contents, output_bit}
use Rattle.bb_expr.specs.Laws.{ValuesHaveWidth, MadeHasValue}
use Rattle.bb_net.specs.Loose.{LooseList, IsLoose, IsLooseValue}
use Rattle.bb_net.specs.Netlists.{box_at}
use Rattle.bb_net.specs.Orders.{renumbered, OrderKeepsValues}
use Rattle.bb_net.specs.Pairs.{BoxTexts}
use Rattle.bb_net.specs.Values.{bit_of, value_of, ValueGoesByBoxes}
use Rattle.bb_net.specs.Flats.{FlatNet}
use Rattle.bb_design.specs.Hierarchy.{Design}
use Rattle.bb_design.specs.NetBits.{Bit, top_outputs}
use Rattle.bb_design.specs.Constructs.{parts}
use Rattle.bb_design.specs.Laws.DrivenWorlds.{IsDrivenWorld, ConstructsHoldBitByBit}
use Rattle.bb_implements.specs.Laws.ListLaws.{vector_bits, given_by_contents, given_by_paths, world_at, ImplementingNetsGiveOutputs, ImplementingNetsAreEquivalent}
use Rattle.bb_design.specs.Inside.Allowed.{IsAllowed}
use Rattle.bb_implements.specs.Places.{CellName, NetBit, data_at, data_places, place_in}
use Rattle.bb_design.specs.Refusals.{TwoDrivers, NoDriver, Cycle}
use Rattle.bb_design.specs.Registers.{RegisterBit, registers}
use Rattle.bb_implements.specs.Implements.{box_number, box_texts, Implements}
use Rattle.bb_design.specs.Worlds.{World, Vector, HasVector, IsWorld, FitDesign, bit_in, next_bit, outputs_in}
use Rattle.bb_implements.proofs.LooseLists.{lists_are_loose}
use Rattle.bb_implements.proofs.ListedData.{data_value}
use Rattle.bb_implements.proofs.ListWorlds.{driven_world, has_vector}
use Rattle.bb_lemmas.proofs.Members.{contains_here, contains_there}
use Rattle.bb_design.specs.Laws.DesignLaws.{DesignLaws}

module _ (of_designs : DesignLaws) (values : ValuesHaveWidth) (made : MadeHasValue) (bitwise : ConstructsHoldBitByBit) (keeps : OrderKeepsValues) (by_boxes : ValueGoesByBoxes)
    (d : Design) (f : FlatNet) (allowed : IsAllowed d) (occurs : Implements d f) (contents : Contents) (x : Vector) (fit : FitDesign d contents) where
  abbrev l : LooseList
  l = occurs.cells

  abbrev number : CellName → ℕ
  number = occurs.listed.number

  abbrev to : ℕ → ℕ
  to = occurs.ordered.to

  loose : IsLoose l
  loose = lists_are_loose of_designs d occurs.lowering l allowed.bounded occurs.lowered occurs.listed

  -- the bits of the netlist, by the numbers that its boxes have in the list
  abbrev net_bits : List Bool
  net_bits = value_of f.net (vector_bits d x) (renumbered occurs.numbers (given_by_contents d contents))

  -- and those of the list
  abbrev bits : List Bool
  bits = map (λ k. bit_of net_bits (to k)) (range_with_len 0 (length l.cells))

  bits_at : (k : ℕ) → k < length l.cells → bit_of bits k ≡ bit_of net_bits (to k)
  bits_at k fits = get_or-map-range_with_len (λ k. bit_of net_bits (to k)) 0 (length l.cells) k k false fits (omega arith)

  value : IsLooseValue l (vector_bits d x) (given_by_contents d contents) bits
  value = (keeps l f.net occurs.numbers loose occurs.netlist occurs.ordered (vector_bits d x) (given_by_contents d contents) bits (length-map-range_with_len (λ k. bit_of net_bits (to k)) 0 (length l.cells))).1 bits_at

  abbrev list_world : World
  list_world = world_at number bits

  -- the outputs of the list are those of its world
  nets_same : (all : List Bit) → map (bit_of bits) (map (λ b. number (NetBit b)) all) ≡ map (bit_in list_world) all
  nets_same [] = refl
  nets_same (b ∷ all) = ap (λ r. bit_in list_world b ∷ r) (nets_same all)

  data_same : (all : List RegisterBit) → ((r : RegisterBit) → Contains all r → Contains (registers d) r)
      → map (bit_of bits) (map number (map (λ r. place_in (flat_map (data_at occurs.lowering) (enumerate_from 0 (parts d))) r.bit) all)) ≡ map (next_bit list_world) all
  data_same [] sub = refl
  data_same (r ∷ all) sub = ap₂ ◌∷◌ (data_value of_designs values made d occurs.lowering l occurs.listed occurs.lowered (of_designs.wired d allowed.bounded) contents x bits value r (sub r (contains_here r all))) (data_same all (λ q has. sub q (contains_there r all q has)))

  list_outs : map (bit_of bits) l.outs ≡ map (bit_in list_world) (top_outputs d) ++ map (next_bit list_world) (registers d)
  list_outs = ap (map (bit_of bits)) occurs.listed.outs ∙ map-append (bit_of bits) (map (λ b. number (NetBit b)) (top_outputs d)) (map number (data_places d occurs.lowering))
      ∙ ap₂ ◌++◌ (nets_same (top_outputs d)) (data_same (registers d) (λ r has. has))

  -- and so are those of the netlist
  moved : (all : List ℕ) → ((k : ℕ) → Contains all k → k < length l.cells) → map (bit_of net_bits) (map to all) ≡ map (bit_of bits) all
  moved [] there = refl
  moved (k ∷ all) there = ap₂ ◌∷◌ (sym (bits_at k (there k (contains_here k all)))) (moved all (λ n has. there n (contains_there k all n has)))

  box_same : (b p : ℕ) → b < length f.net.boxes → (ins : List Bool) → renumbered occurs.numbers (given_by_contents d contents) b p ins ≡ given_by_paths f contents b p ins
  box_same b p fits ins =
      let none : BoxTexts = record { path = []; «module» = []; ins = []; outs = [] } in
      let there : b < length occurs.numbers = omega (arith, fits, occurs.ordered.box_count, occurs.ordered.number_count) in
      let text : get_or f.boxes b none ≡ box_texts d (box_number d (get_or occurs.numbers b 0)) = ap (λ all. get_or all b none) occurs.boxes ∙ get_or-map (λ b. box_texts d (box_number d b)) occurs.numbers b 0 none there in
      ap (λ (t : BoxTexts). output_bit (contents t.path) ins p) (sym text)

  net_outs : map (bit_of (value_of f.net (vector_bits d x) (given_by_paths f contents))) f.net.outs ≡ map (bit_in list_world) (top_outputs d) ++ map (next_bit list_world) (registers d)
  net_outs = ap (λ all. map (bit_of all) f.net.outs) (sym (by_boxes f.net occurs.netlist (vector_bits d x) (renumbered occurs.numbers (given_by_contents d contents)) (given_by_paths f contents) (λ b p fits pin. box_same b p fits (map (bit_of net_bits) (box_at f.net.boxes b).ins))))
      ∙ ap (map (bit_of net_bits)) occurs.ordered.outs ∙ moved l.outs (λ k has. All-contains (λ place. place < length l.cells) l.outs k loose.outs_there has) ∙ list_outs

  list_driven : IsDrivenWorld d contents list_world
  list_driven = driven_world of_designs d occurs.lowering l occurs.listed occurs.lowered (of_designs.wired d allowed.bounded) contents x bits value (of_designs.bits_there d allowed.bounded) (allowed.sound TwoDrivers) (allowed.sound Cycle)

  list_vector : HasVector d x list_world
  list_vector = has_vector of_designs d occurs.lowering l occurs.listed occurs.lowered (of_designs.wired d allowed.bounded) contents x bits value (of_designs.bits_there d allowed.bounded) (allowed.sound TwoDrivers) (allowed.sound Cycle)

  some_world : (w : World) × IsWorld d contents w × HasVector d x w
  some_world =
      let w = of_designs.have_worlds d contents x (allowed.sound TwoDrivers) (allowed.sound Cycle) in
      (w.0, (of_designs.driven_worlds d contents w.0 (of_designs.ends d allowed.bounded) allowed.bounded.shallow (of_designs.legal d allowed.bounded contents fit)).1 w.1, w.2)

  each_world : (w : World) → IsWorld d contents w → HasVector d x w → map (λ o. o.1) (outputs_in d w) ≡ map (bit_of (value_of f.net (vector_bits d x) (given_by_paths f contents))) f.net.outs
  each_world w is vector =
      let driven = (of_designs.driven_worlds d contents w (of_designs.ends d allowed.bounded) allowed.bounded.shallow (of_designs.legal d allowed.bounded contents fit)).0 is in
      let agree = of_designs.agree_where_read d contents x w list_world (of_designs.bits_there d allowed.bounded) (allowed.sound NoDriver) (allowed.sound Cycle) driven list_driven vector list_vector in
      of_designs.outputs_in_order d w ∙ of_designs.outputs_by_reads d w list_world agree ∙ sym net_outs

module _ (of_designs : DesignLaws) where
  pub implementing_nets_give_outputs : ValuesHaveWidth → MadeHasValue → ConstructsHoldBitByBit → OrderKeepsValues → ValueGoesByBoxes → ImplementingNetsGiveOutputs
  implementing_nets_give_outputs values made bitwise keeps by_boxes d f allowed occurs contents x fit = (
    some_world of_designs values made bitwise keeps by_boxes d f allowed occurs contents x fit,
    each_world of_designs values made bitwise keeps by_boxes d f allowed occurs contents x fit,
  )

pub implementing_nets_are_equivalent : ImplementingNetsGiveOutputs → ImplementingNetsAreEquivalent
implementing_nets_are_equivalent law d f g allowed occurs_f occurs_g contents x fit =
    let first = law d f allowed occurs_f contents x fit in
    let w = first.0 in
    sym (first.1 w.0 w.1 w.2) ∙ (law d g allowed occurs_g contents x fit).1 w.0 w.1 w.2
