-- The numbers of the driven bits of a design are those of its driven bits.
use Rattle.std.proofs.Common.{if◌then◌else◌, ◌≡◌, ◌<◌, ℕ, Bool, true, false, List, [], ◌∷◌, length, take, All, Some, refl, sym, ap, ◌∙◌, subst, arith, append-nil}
use Rattle.std.specs.Prelude.{slice_get}
use Rattle.std.specs.Option.{option_map_or}
use Rattle.std.specs.List.{flat_map, slice_index_or}
use Rattle.bb_ast.specs.Syntax.{PlainModule}
use Rattle.bb_names.specs.Sites.{Pin, module_named}
use Rattle.bb_expr.specs.Laws.{ValuesHaveWidth, MadeHasValue}
use Rattle.bb_blast.specs.declared.template.Part.{Part}
use Rattle.bb_blast.specs.declared.template.ModuleTemplate.{ModuleTemplate}
use Rattle.bb_blast.specs.declared.placed.Placed.{Placed}
use Rattle.bb_design.specs.Hierarchy.{Design, Instance, Scope, root, path_to, instances_of, scopes, is_box}
use Rattle.bb_design.specs.NetBits.{Bit, scope_bits, net_order, bits_named, pin_bits, output_bits, top_inputs, written_bits}
use Rattle.bb_design.specs.Constructs.{Construct, Assignment, GateInstance, Register, SupplyNet, InputConnection, OutputConnection, BoxContents, body_constructs, constructs_at}
use Rattle.bb_design.specs.Drivers.{driven_bits}
use Rattle.bb_design.specs.Inside.Allowed.{IsBounded}
use Rattle.bb_blast.specs.Inside.ModuleTemplates.{IsPinIn, IsPartOf, IsModuleTemplate}
use Rattle.bb_bits.specs.Inside.Places.{AreAt, numbers_from}
use Rattle.bb_blast.specs.Inside.Placements.{IsScopeAt, IsChildAt, IsPlacedAt, ArePlaced, AreTemplated}
use Rattle.bb_elab.specs.Inside.DrivenNumbers.{first_inside, part_numbers, template_numbers, scope_numbers, top_numbers, driven_numbers, IsInside, MayCountInputs, MayBeCounted}
use Rattle.bb_lemmas.proofs.Places.{got, some_at, some_same}
use Rattle.bb_lemmas.proofs.AtPlaces.{at_append, at_below, zip_flat}
use Rattle.bb_lemmas.proofs.Zips.{zip_all, zip_other, AreNumbered, zip_numbered}
use Rattle.bb_elab.proofs.DrivenBits.{bits_driven, drivers_in, driven_are}
use Rattle.bb_blast.specs.declared.template.Part.TheVariants as part
use Rattle.bb_lemmas.proofs.FlatPlaces.{at_flat}
use Rattle.bb_design.specs.Laws.DesignLaws.{DesignLaws}

module _ (d : Design) (all : List Placed) (placed : ArePlaced d all) (k : ℕ) (s : Scope) (p : Placed) (here : IsScopeAt d k s) (is : IsPlacedAt d k s p) where
  at_scope : (xs : List Bit) (ks : List ℕ) → AreAt (scope_bits s) ks xs → AreAt (net_order d) (numbers_from p.first ks) xs
  at_scope xs ks at = at_flat scope_bits (scopes d) k s here p.first is.first ks xs at

  -- the scope of an instance
  abbrev HasInside : ℕ → Instance → Type 0
  HasInside instance i = (instance < length p.children.items) × (slice_index_or p.children.items instance 0 < length all) × (m : PlainModule) × (j : ℕ) × (module_named d.text i.target ≡ Some m)
      × IsScopeAt d j (record { path = path_to s.path i.name; source = m }) × (first_inside all p instance ≡ length (flat_map scope_bits (take j (scopes d))))

  scope_inside : (instance : ℕ) (i : Instance) → slice_get (instances_of s.source) instance ≡ Some i → HasInside instance i
  scope_inside instance i at =
      let c = zip_other (IsChildAt d s) p.children.items (instances_of s.source) instance i is.children at in
      let g = got p.children.items instance c.0 0 c.1 in
      let scope : Scope = record { path = path_to s.path i.name; source = c.2.0 } in
      let there = got (scopes d) c.0 scope scope c.2.2 in
      let lt : c.0 < length all = omega (arith, there.0, placed.count) in
      let q = some_at all c.0 lt in
      let number : slice_index_or p.children.items instance 0 ≡ c.0 = g.1 in (
        g.0,
        omega (arith, number, lt),
        c.2.0,
        c.0,
        c.2.1,
        c.2.2,
        ap (λ j. option_map_or (λ (z : Placed). z.first) (slice_get all j) 0) number ∙ ap (λ o. option_map_or (λ (z : Placed). z.first) o 0) q.1 ∙ (placed.each c.0 scope q.0 c.2.2 q.1).first,
      )

  at_child : (n : List ℕ) (instance : ℕ) (ks : List ℕ) (port : Pin) → IsPinIn d.text s.source instance ks n port → AreAt (net_order d) (numbers_from (first_inside all p instance) ks) (pin_bits (path_to s.path n) port)
  at_child n instance ks port pin =
      let c = scope_inside instance pin.called pin.there in
      let same : c.2 ≡ pin.target = some_same c.2 pin.target (sym c.4 ∙ pin.meant) in
      let scope : Scope = record { path = path_to s.path pin.called.name; source = c.2 } in
      let bits : AreAt (scope_bits scope) ks (pin_bits scope.path port) = subst (λ m. AreAt (scope_bits (record { path = path_to s.path pin.called.name; source = m })) ks (pin_bits scope.path port)) (sym same) (pin.bits scope.path) in
      subst (λ m. AreAt (net_order d) (numbers_from (first_inside all p instance) ks) (pin_bits (path_to s.path m) port)) pin.named
      (at_flat scope_bits (scopes d) c.3 scope c.5 (first_inside all p instance) c.6 ks (pin_bits scope.path port) bits)

  part_at : (part : Part) (c : Construct) → IsPartOf d.text s.source part c → AreAt (net_order d) (part_numbers all p part) (bits_driven s c)
  part_at (part.Assignment left right) (Assignment l r) at = at_scope (written_bits s l) left.items (at.0 s.path)
  part_at (part.Assignment left right) (GateInstance g os is) at = absurd at
  part_at (part.Assignment left right) (Register r) at = absurd at
  part_at (part.Assignment left right) (SupplyNet h n) at = absurd at
  part_at (part.Assignment left right) (InputConnection i port e) at = absurd at
  part_at (part.Assignment left right) (OutputConnection i port e) at = absurd at
  part_at (part.Assignment left right) BoxContents at = absurd at
  part_at (part.Gate gate outs ins) (Assignment l r) at = absurd at
  part_at (part.Gate gate outs ins) (GateInstance g os is) at = at_scope (flat_map (written_bits s) os) outs.items (at.1 s.path)
  part_at (part.Gate gate outs ins) (Register r) at = absurd at
  part_at (part.Gate gate outs ins) (SupplyNet h n) at = absurd at
  part_at (part.Gate gate outs ins) (InputConnection i port e) at = absurd at
  part_at (part.Gate gate outs ins) (OutputConnection i port e) at = absurd at
  part_at (part.Gate gate outs ins) BoxContents at = absurd at
  part_at (part.Register left right clock falling) (Assignment l r) at = absurd at
  part_at (part.Register left right clock falling) (GateInstance g os is) at = absurd at
  part_at (part.Register left right clock falling) (Register r) at = at_scope (written_bits s r.left) left.items (at.0 s.path)
  part_at (part.Register left right clock falling) (SupplyNet h n) at = absurd at
  part_at (part.Register left right clock falling) (InputConnection i port e) at = absurd at
  part_at (part.Register left right clock falling) (OutputConnection i port e) at = absurd at
  part_at (part.Register left right clock falling) BoxContents at = absurd at
  part_at (part.Supply high bits) (Assignment l r) at = absurd at
  part_at (part.Supply high bits) (GateInstance g os is) at = absurd at
  part_at (part.Supply high bits) (Register r) at = absurd at
  part_at (part.Supply high bits) (SupplyNet h n) at = at_scope (bits_named s n) bits.items (at.1 s.path)
  part_at (part.Supply high bits) (InputConnection i port e) at = absurd at
  part_at (part.Supply high bits) (OutputConnection i port e) at = absurd at
  part_at (part.Supply high bits) BoxContents at = absurd at
  part_at (part.Input instance pin value) (Assignment l r) at = absurd at
  part_at (part.Input instance pin value) (GateInstance g os is) at = absurd at
  part_at (part.Input instance pin value) (Register r) at = absurd at
  part_at (part.Input instance pin value) (SupplyNet h n) at = absurd at
  part_at (part.Input instance pin value) (InputConnection i port e) at = at_child i instance pin.items port at.0
  part_at (part.Input instance pin value) (OutputConnection i port e) at = absurd at
  part_at (part.Input instance pin value) BoxContents at = absurd at
  part_at (part.Output instance pin left) (Assignment l r) at = absurd at
  part_at (part.Output instance pin left) (GateInstance g os is) at = absurd at
  part_at (part.Output instance pin left) (Register r) at = absurd at
  part_at (part.Output instance pin left) (SupplyNet h n) at = absurd at
  part_at (part.Output instance pin left) (InputConnection i port e) at = absurd at
  part_at (part.Output instance pin left) (OutputConnection i port e) at = at_scope (written_bits s e) left.items (at.1 s.path)
  part_at (part.Output instance pin left) BoxContents at = absurd at

  inside_there : (n : List ℕ) (instance : ℕ) (ks : List ℕ) (port : Pin) → IsPinIn d.text s.source instance ks n port → (instance < length p.children.items) × (slice_index_or p.children.items instance 0 < length all)
  inside_there n instance ks port pin = let c = scope_inside instance pin.called pin.there in (c.0, c.1)

  part_inside : (part : Part) (c : Construct) → IsPartOf d.text s.source part c → IsInside all p part
  part_inside (part.Assignment left right) c at = tt
  part_inside (part.Gate gate outs ins) c at = tt
  part_inside (part.Register left right clock falling) c at = tt
  part_inside (part.Supply high bits) c at = tt
  part_inside (part.Input instance pin value) (Assignment l r) at = absurd at
  part_inside (part.Input instance pin value) (GateInstance g os is) at = absurd at
  part_inside (part.Input instance pin value) (Register r) at = absurd at
  part_inside (part.Input instance pin value) (SupplyNet h n) at = absurd at
  part_inside (part.Input instance pin value) (InputConnection i port e) at = inside_there i instance pin.items port at.0
  part_inside (part.Input instance pin value) (OutputConnection i port e) at = absurd at
  part_inside (part.Input instance pin value) BoxContents at = absurd at
  part_inside (part.Output instance pin left) c at = tt

  module _ (templates : List ModuleTemplate) (o : ModuleTemplate) (found : slice_get templates p.module ≡ Some o) (templated : IsModuleTemplate d.text s.source o) where
    pub scope_at : AreAt (net_order d) (scope_numbers all templates p) (flat_map (bits_driven s) (constructs_at d.text s))
    scope_at =
        subst (λ z. AreAt (net_order d) (option_map_or (template_numbers all p) z []) (flat_map (bits_driven s) (constructs_at d.text s))) (sym found)
        (subst (λ b. AreAt (net_order d) (if b then numbers_from p.first o.outputs.items else flat_map (part_numbers all p) o.parts.items) (flat_map (bits_driven s) (constructs_at d.text s))) (sym is.boxed) (by (is_box s)))
      where
        constructs : List Construct
        constructs = flat_map (λ item. body_constructs d.text item.body) s.source.items

        by : (b : Bool) → AreAt (net_order d) (if b then numbers_from p.first o.outputs.items else flat_map (part_numbers all p) o.parts.items) (flat_map (bits_driven s) (if b then BoxContents ∷ [] else constructs))
        by true = subst (AreAt (net_order d) (numbers_from p.first o.outputs.items)) (sym (append-nil (output_bits s))) (at_scope (output_bits s) o.outputs.items (templated.outputs s.path))
        by false = zip_flat (net_order d) (IsPartOf d.text s.source) (part_numbers all p) (bits_driven s) part_at o.parts.items constructs templated.parts

    pub may_be_counted : MayBeCounted all templates (length (net_order d)) p
    may_be_counted = record {
      templated = (got templates p.module o o found).0;
      inside = λ q at boxed. subst (λ (z : ModuleTemplate). All (IsInside all p) z.parts.items) (some_same o q (sym found ∙ at))
          (zip_all (IsPartOf d.text s.source) (IsInside all p) part_inside o.parts.items (flat_map (λ item. body_constructs d.text item.body) s.source.items) templated.parts);
      numbers = at_below (net_order d) (scope_numbers all templates p) (flat_map (bits_driven s) (constructs_at d.text s)) scope_at;
    }

-- the whole design
module _ (of_designs : DesignLaws) (d : Design) (all : List Placed) (templates : List ModuleTemplate) (placed : ArePlaced d all) (templated : AreTemplated d all templates) where
  top_at : (ps : List Placed) → ((p : Placed) → slice_get ps 0 ≡ Some p → slice_get all 0 ≡ Some p) → 0 < length ps → AreAt (net_order d) (top_numbers ps templates) (top_inputs d)
  top_at [] same some = absurd (omega (arith, some))
  top_at (p ∷ ps) same some =
      let at = same p refl in
      let o = templated 0 (root d) p refl at in
      let is = placed.each 0 (root d) p refl at in
      subst (λ z. AreAt (net_order d) (option_map_or (λ (q : ModuleTemplate). numbers_from p.first q.inputs.items) z []) (top_inputs d)) (sym o.1)
      (at_flat scope_bits (scopes d) 0 (root d) refl p.first is.first o.0.inputs.items (top_inputs d) (o.2.inputs []))

  pub inputs_there : (p : Placed) → slice_get all 0 ≡ Some p → MayCountInputs templates (length (net_order d)) p
  inputs_there p at =
      let o = templated 0 (root d) p refl at in
      let is = placed.each 0 (root d) p refl at in
      record {
        templated = (got templates p.module o.0 o.0 o.1).0;
        numbers = subst (λ z. All (λ k. k < length (net_order d)) (option_map_or (λ (q : ModuleTemplate). numbers_from p.first q.inputs.items) z [])) (sym o.1)
            (at_below (net_order d) (numbers_from p.first o.0.inputs.items) (top_inputs d) (at_flat scope_bits (scopes d) 0 (root d) refl p.first is.first o.0.inputs.items (top_inputs d) (o.2.inputs [])));
      }

  pub scopes_there : All (MayBeCounted all templates (length (net_order d))) all
  scopes_there = zip_all (AreNumbered all (scopes d)) (MayBeCounted all templates (length (net_order d)))
      (λ p s z. let o = templated z.0 s p z.2 z.1 in may_be_counted d all placed z.0 s p z.2 (placed.each z.0 s p z.2 z.1) templates o.0 o.1 o.2) all (scopes d) (zip_numbered all (scopes d) placed.count)

  pub driven_at : ValuesHaveWidth → MadeHasValue → IsBounded d → AreAt (net_order d) (driven_numbers all templates) (driven_bits d)
  driven_at values cells bounded = subst (AreAt (net_order d) (driven_numbers all templates)) (sym (driven_are of_designs values cells d bounded))
      (at_append (net_order d) (top_numbers all templates) (flat_map (scope_numbers all templates) all) (top_inputs d) (flat_map (drivers_in d) (scopes d)) (top_at all (λ p at. at) (omega (arith, placed.count)))
      (zip_flat (net_order d) (AreNumbered all (scopes d)) (scope_numbers all templates) (drivers_in d)
      (λ p s z. let o = templated z.0 s p z.2 z.1 in scope_at d all placed z.0 s p z.2 (placed.each z.0 s p z.2 z.1) templates o.0 o.1 o.2) all (scopes d) (zip_numbered all (scopes d) placed.count)))
