-- The boxes of a netlist that implements a design are scopes of it: names of their modules, and texts of their pins.
use Rattle.std.proofs.Common.{◌≡◌, ℕ, ◌<◌, List, map, length, Contains, sym, ap, ◌∙◌, subst, arith}
use Rattle.std.specs.Prelude.{slice_index}
use Rattle.std.specs.List.{enumerate_from}
use Rattle.std.proofs.lemmas.List.{length-map, get_or_default}
use Rattle.std.proofs.lemmas.List.Elements.{Contains-get_or}
use Rattle.bb_ast.specs.Inside.Formed.{IsFormed}
use Rattle.bb_bits.specs.Names.{IsPrintable}
use Rattle.bb_net.specs.Flats.{FlatNet, PinsGoByModules}
use Rattle.bb_net.specs.Pairs.{BoxTexts}
use Rattle.bb_design.specs.Inside.Allowed.{IsBounded}
use Rattle.bb_design.specs.Laws.DesignLaws.{DesignLaws}
use Rattle.bb_design.specs.Hierarchy.{Design, Scope, scopes, root, boxes, is_box}
use Rattle.bb_implements.specs.Places.{pins_of}
use Rattle.bb_implements.specs.Implements.{Implements, box_number, box_texts}
use Rattle.bb_lemmas.proofs.Members.{each_of, from_map, kept_from}
use Rattle.bb_lemmas.proofs.Numbered.{length-enumerated}

module _ (d : Design) (f : FlatNet) (occurs : Implements d f) where
  number_there : (b : ℕ) → Contains occurs.numbers b → b < length (boxes d)
  number_there b has =
      let inside = (occurs.ordered.boxes has.0 (omega (arith, has.1, occurs.ordered.number_count))).0 in
      let is : slice_index occurs.numbers has.0 ≡ b = get_or_default occurs.numbers has.0 0 b has.1 ∙ has.2 in
      let listed = ap length occurs.listed.boxes ∙ length-map (enumerate_from 0 (boxes d)) (pins_of occurs.listed.number) ∙ length-enumerated 0 (boxes d) in
      omega (arith, inside, is, listed)

  -- the scope of a box
  pub box_scope : (x : BoxTexts) → Contains (map (λ b. box_texts d (box_number d b)) occurs.numbers) x → (s : Scope) × Contains (boxes d) s × (box_texts d s ≡ x)
  box_scope x has =
      let b = from_map (λ b. box_texts d (box_number d b)) occurs.numbers x has in
      (box_number d b.0, Contains-get_or (boxes d) b.0 (root d) (number_there b.0 b.1), b.2)

box_is_scope : (d : Design) (s : Scope) → Contains (boxes d) s → Contains (scopes d) s
box_is_scope d s has = (kept_from is_box (scopes d) s has).0

module _ (of_designs : DesignLaws) (d : Design) (bounded : IsBounded d) where
  pub module_printable : (s : Scope) → Contains (boxes d) s → IsPrintable s.source.name
  module_printable s has = (each_of IsFormed d.text bounded.formed s.source (of_designs.of_text d s bounded.top (box_is_scope d s has))).0

  pub pins_by_modules : (f : FlatNet) → Implements d f → PinsGoByModules f.boxes
  pins_by_modules f occurs a b a_there b_there same =
      let x = box_scope d f occurs a (subst (λ (l : List BoxTexts). Contains l a) occurs.boxes a_there) in
      let y = box_scope d f occurs b (subst (λ (l : List BoxTexts). Contains l b) occurs.boxes b_there) in
      let pins = of_designs.pin_texts d bounded x.0 y.0 (box_is_scope d x.0 x.1) (box_is_scope d y.0 y.1) (ap (λ (t : BoxTexts). t.module) x.2 ∙ same ∙ sym (ap (λ (t : BoxTexts). t.module) y.2)) in (
        sym (ap (λ (t : BoxTexts). t.ins) x.2) ∙ pins.0 ∙ ap (λ (t : BoxTexts). t.ins) y.2,
        sym (ap (λ (t : BoxTexts). t.outs) x.2) ∙ pins.1 ∙ ap (λ (t : BoxTexts). t.outs) y.2,
      )
