-- The texts of a netlist that implements a design are printable.
use Rattle.std.proofs.Common.{Bool, List, [], ◌∷◌, map, filter, flat_map, find, Contains, sym, subst}
use Rattle.std.specs.Prelude.{All}
use Rattle.std.specs.List.{AllZip}
use Rattle.std.proofs.lemmas.List.Elements.{All-nil, All-cons}
use Rattle.bb_bits.specs.Names.{IsPrintable}
use Rattle.bb_names.specs.declared.net.NetInfo.{NetInfo}
use Rattle.bb_names.specs.Nets.{nets_of}
use Rattle.bb_net.specs.Flats.{FlatNet, ArePrintable}
use Rattle.bb_net.specs.Pairs.{BoxTexts}
use Rattle.bb_net.specs.declared.flat.Reg.{Reg}
use Rattle.bb_design.specs.Inside.Allowed.{IsBounded}
use Rattle.bb_design.specs.Laws.DesignLaws.{DesignLaws}
use Rattle.bb_design.specs.Hierarchy.{Design, scopes, root, boxes, instances}
use Rattle.bb_design.specs.NetBits.{Bit, same_bit, bits_of_net, net_order, scope_bits, top_inputs, top_outputs}
use Rattle.bb_design.specs.Registers.{RegisterBit, registers, stored}
use Rattle.bb_design.specs.Texts.{bit_text}
use Rattle.bb_implements.specs.Laws.ListLaws.{ImplementingNetsArePrintable}
use Rattle.bb_implements.specs.Implements.{IsRegister, Implements, box_number, box_texts}
use Rattle.bb_lemmas.proofs.Members.{all_from, from_flat, from_map, from_filter, from_find, into_flat, contains_here, contains_there, kept_from}
use Rattle.bb_implements.proofs.BoxModules.{box_scope, module_printable}
use Rattle.bb_implements.proofs.PrintableTexts.{bit_printable, box_printable}

-- a bit of some nets of the top is one of the design
ports_there : (d : Design) (some : NetInfo → Bool) (b : Bit) → Contains (flat_map (bits_of_net []) (filter some (nets_of d.top))) b → Contains (net_order d) b
ports_there d some b has =
    let net = from_flat (bits_of_net []) (filter some (nets_of d.top)) b has in
    into_flat scope_bits (scopes d) (root d) b (contains_here (root d) (instances d)) (into_flat (bits_of_net []) (nets_of d.top) net.0 b (kept_from some (nets_of d.top) net.0 net.1).0 net.2)

-- what holds of each element of a list holds of what goes with it
zip_each : {A B : Type 0} (R : A → B → Type 0) (P : B → Type 0) (xs : List A) (ys : List B) → ((x : A) (y : B) → Contains xs x → R x y → P y) → AllZip R xs ys → All P ys
zip_each R P [] [] each all = All-nil P
zip_each R P [] (y ∷ ys) each all = absurd all
zip_each R P (x ∷ xs) [] each all = absurd all
zip_each R P (x ∷ xs) (y ∷ ys) each all = All-cons P y ys (each x y (contains_here x xs) all.0) (zip_each R P xs ys (λ u v has. each u v (contains_there x xs u has)) all.1)

module _ (of_designs : DesignLaws) (d : Design) (f : FlatNet) (bounded : IsBounded d) (occurs : Implements d f) where
  texts_printable : (bits : List Bit) → ((b : Bit) → Contains bits b → Contains (net_order d) b) → All IsPrintable (map (bit_text d) bits)
  texts_printable bits there = all_from IsPrintable (map (bit_text d) bits) (λ n has.
      let b = from_map (bit_text d) bits n has in
      subst IsPrintable b.2 (bit_printable of_designs d bounded b.0 (there b.0 b.1)))

  register_there : (r : RegisterBit) → Contains (registers d) r → Contains (net_order d) r.bit
  register_there r has =
      let b = from_filter (λ b. find (λ r. same_bit b r.bit) (stored d)) (net_order d) r has in
      let is = (of_designs.distinguished b.0 r.bit).0 (from_find (λ (r : RegisterBit). same_bit b.0 r.bit) (stored d) r b.2).1 in
      subst (Contains (net_order d)) is b.1

  box_named : (x : BoxTexts) → Contains (map (λ b. box_texts d (box_number d b)) occurs.numbers) x → IsPrintable x.path
  box_named x has =
      let s = box_scope d f occurs x has in
      subst (λ (y : BoxTexts). IsPrintable y.path) s.2 (box_printable of_designs d bounded s.0 s.1)

  module_named : (x : BoxTexts) → Contains (map (λ b. box_texts d (box_number d b)) occurs.numbers) x → IsPrintable x.module
  module_named x has =
      let s = box_scope d f occurs x has in
      subst (λ (y : BoxTexts). IsPrintable y.module) s.2 (module_printable of_designs d bounded s.0 s.1)

  pub net_printable : ArePrintable f
  net_printable = record {
    ins = subst (All IsPrintable) (sym occurs.ins) (texts_printable (top_inputs d) (ports_there d _));
    regs = zip_each (IsRegister d) (λ (r : Reg). IsPrintable r.text) (registers d) f.regs (λ r reg has is. subst IsPrintable (sym is.text) (bit_printable of_designs d bounded r.bit (register_there r has))) occurs.regs;
    outs = subst (All IsPrintable) (sym occurs.outs) (texts_printable (top_outputs d) (ports_there d _));
    boxes = subst (All (λ (x : BoxTexts). IsPrintable x.path)) (sym occurs.boxes) (all_from (λ (x : BoxTexts). IsPrintable x.path) (map (λ b. box_texts d (box_number d b)) occurs.numbers) box_named);
    modules = subst (All (λ (x : BoxTexts). IsPrintable x.module)) (sym occurs.boxes) (all_from (λ (x : BoxTexts). IsPrintable x.module) (map (λ b. box_texts d (box_number d b)) occurs.numbers) module_named);
  }

pub implementing_nets_are_printable : DesignLaws → ImplementingNetsArePrintable
implementing_nets_are_printable of_designs d f bounded occurs = net_printable of_designs d f bounded occurs
