-- A world of a design with modules in place of boxes is one of the design with boxes, with the same vector and outputs.
use Rattle.std.proofs.Common.{◌≡◌, ◌⊎◌, ◌↔◌, ℕ, Bool, true, false, not, List, [], ◌∷◌, ◌++◌, map, find, option_map, All, Contains, Option, Some, None, inl, inr, refl, sym, ap, ap₂, ◌∙◌, subst, arith, true≢false}
use Rattle.std.specs.Prelude.{option_to_list}
use Rattle.std.specs.List.{filter, flat_map, list_any}
use Rattle.std.specs.Option.{option_and_then}
use Rattle.std.proofs.lemmas.List.Elements.{All-contains}
use Rattle.bb_ast.specs.Syntax.{PlainBody, Ports, Nets, Regs, Supply, Assign, Gates, Calls, Always, PlainItem, PlainModule, Expression}
use Rattle.bb_ast.specs.declared.module.Dir.{Dir}
use Rattle.bb_ast.specs.declared.module.Range.{Range}
use Rattle.bb_bits.specs.Contents.{Contents, row_at}
use Rattle.bb_names.specs.declared.net.NetInfo.{NetInfo}
use Rattle.bb_names.specs.Declarations.{is_port, port_direction, range_of}
use Rattle.bb_names.specs.Faults.{is_input}
use Rattle.bb_names.specs.Nets.{is_of_empty, nets_of, net_names, net_of}
use Rattle.bb_names.specs.Sites.{module_named}
use Rattle.bb_lemmas.proofs.Members.{all_from, contains_cases, contains_here, contains_there, from_filter_map, from_find, from_flat, from_map, keeps, kept_from, none_in_nil}
use Rattle.bb_net.specs.CutPoints.{TopOutput, NextState, TopInput, State}
use Rattle.bb_design.specs.Constructs.{Construct, BoxContents, body_constructs, constructs_at, initial_construct}
use Rattle.bb_design.specs.Hierarchy.{Design, Path, boxes, is_box, module_at, scopes}
use Rattle.bb_design.specs.NetBits.{Bit, bits_of_net, input_bits, net_order, output_bits, same_bit, top_inputs, top_outputs}
use Rattle.bb_design.specs.Refusals.{IsShallow}
use Rattle.bb_design.specs.Registers.{RegisterBit, registers, stored}
use Rattle.bb_design.specs.Texts.{bit_text, net_bit_text, path_prefix, path_text}
use Rattle.bb_design.specs.Worlds.{HasVector, Holds, IsWorld, Vector, World, bit_in, bits_in, next_bit, outputs_in}
use Rattle.bb_replace.specs.Laws.Replacement.{AllMayReplace, AreComputed, MayReplace, scope_of, replaced, replaced_design}
use Rattle.bb_replace.proofs.ReplacedConstructs.{free_constructs, same_constructs}
use Rattle.bb_replace.proofs.ReplacedModules.{Place, Stays, Goes, combinational_has_none, place_for, module_under_same, under_there}
use Rattle.bb_replace.proofs.ReplacedPorts.{directed_is_port, same_inputs, same_outputs}
use Rattle.bb_replace.proofs.ReplacedRegisters.{Below, IsStored, all_there, empty_stores, registers_same, stored_there}

-- an empty module that is no box has nothing that has to hold

unassigned : (m : PlainModule) (range : Option Range) (nets : List (List ℕ × Option Expression)) → is_of_empty m (Nets range nets) ≡ true → flat_map initial_construct nets ≡ []
unassigned m range [] e = refl
unassigned m range ((n, None) ∷ nets) e = by (is_port m n) refl (unassigned m range nets)
  where
    by : (b : Bool) → is_port m n ≡ b → (is_of_empty m (Nets range nets) ≡ true → flat_map initial_construct nets ≡ []) → flat_map initial_construct ((n, None) ∷ nets) ≡ []
    by true f rest = rest (grind (arith, e, f))
    by false f rest = grind (arith, e, f)
unassigned m range ((n, Some x) ∷ nets) e = grind (arith, e)

nothing_in : (m : PlainModule) (text : List PlainModule) (body : PlainBody) → is_of_empty m body ≡ true → body_constructs text body ≡ []
nothing_in m text (Ports port names) e = refl
nothing_in m text (Nets range nets) e = unassigned m range nets e
nothing_in m text (Regs range names) e = refl
nothing_in m text (Supply high range names) e = grind (arith, e)
nothing_in m text (Assign all) e = grind (arith, e)
nothing_in m text (Gates gate all) e = grind (arith, e)
nothing_in m text (Calls target all) e = grind (arith, e)
nothing_in m text (Always a) e = grind (arith, e)

pub map_within : {A B : Type 0} (f g : A → B) (xs : List A) → ((x : A) → Contains xs x → f x ≡ g x) → map f xs ≡ map g xs
map_within f g [] same = refl
map_within f g (x ∷ xs) same = ap₂ (λ a b. a ∷ b) (same x (contains_here x xs)) (map_within f g xs (λ y has. same y (contains_there x xs y has)))

-- a register is stored to
registers_stored : (d : Design) (r : RegisterBit) → Contains (registers d) r → Contains (stored d) r
registers_stored d r has =
    let b = from_filter_map (λ (b : Bit). find (λ (r : RegisterBit). same_bit b r.bit) (stored d)) (net_order d) r has in
    (from_find (λ (r : RegisterBit). same_bit b.0 r.bit) (stored d) r b.2).0

module _ (modules : List PlainModule) (d : Design) (laws : Below d) (may : AllMayReplace modules d.text) where
  -- where a path leads
  leads : (path : Path) (e : PlainModule) → module_at d path ≡ Some e → module_at (replaced_design modules d) path ≡ Some (replaced modules e)
  leads path e is = module_under_same modules d.text may d.top laws.top path ∙ ap (option_map (replaced modules)) is

  there : (path : Path) (e : PlainModule) → module_at d path ≡ Some e → Contains d.text e
  there path e is = under_there d.text d.top laws.top path e is

  module _ (contents : Contents) (w : World) (computed : AreComputed modules d contents) (shallow : IsShallow d) (is : IsWorld (replaced_design modules d) contents w) where
    -- a copy of a module that replaces an empty one gives the row of the box
    box_holds : (path : Path) (e m : PlainModule) → module_at d path ≡ Some e → is_box (scope_of path e) ≡ true → MayReplace e m → module_named modules e.name ≡ Some m → replaced modules e ≡ m → Holds contents w (scope_of path e) BoxContents
    box_holds path e m at box fits named goes =
        let listed : Contains (boxes d) (scope_of path e) = keeps is_box (scopes d) (scope_of path e) (laws.ends.listed shallow path e at) box in
        let held : All (Holds contents w (scope_of path m)) (constructs_at (map (replaced modules) d.text) (scope_of path m)) = subst (λ z. All (Holds contents w (scope_of path z)) (constructs_at (map (replaced modules) d.text) (scope_of path z))) goes (is path (replaced modules e) (leads path e at)) in
        let alone : All (Holds contents w (scope_of path m)) (constructs_at (m ∷ []) (scope_of path m)) = subst (All (Holds contents w (scope_of path m))) (free_constructs (map (replaced modules) d.text) (m ∷ []) (scope_of path m) (combinational_has_none m.items fits.combinational)) held in
        sym (ap (bits_in w) (same_outputs path e m fits)) ∙ computed (scope_of path e) m listed named path contents w alone
        ∙ ap (λ l. row_at (contents (path_text path)) (bits_in w l)) (same_inputs path e m fits)

    pub world_too : IsWorld d contents w
    world_too path e at = by (place_for modules e)
      where
        by : Place modules e → All (Holds contents w (scope_of path e)) (constructs_at d.text (scope_of path e))
        by (Stays f) = subst (All (Holds contents w (scope_of path e))) (same_constructs modules d.text may (scope_of path e)) (subst (λ z. All (Holds contents w (scope_of path z)) (constructs_at (map (replaced modules) d.text) (scope_of path z))) f (is path (replaced modules e) (leads path e at)))
        by (Goes m empty named goes) = all_from (Holds contents w (scope_of path e)) (constructs_at d.text (scope_of path e)) (λ c has. each (is_box (scope_of path e)) refl c has)
          where
            fits : MayReplace e m
            fits = may e m (there path e at) empty named

            each : (b : Bool) → is_box (scope_of path e) ≡ b → (c : Construct) → Contains (constructs_at d.text (scope_of path e)) c → Holds contents w (scope_of path e) c
            each true box c has = only (contains_cases BoxContents [] c (subst (λ l. Contains l c) {y = BoxContents ∷ []} (grind (arith, box)) has))
              where
                only : (BoxContents ≡ c) ⊎ Contains {X = Construct} [] c → Holds contents w (scope_of path e) c
                only (inl same) = subst (Holds contents w (scope_of path e)) same (box_holds path e m at box fits named goes)
                only (inr h) = absurd (none_in_nil c h)
            each false box c has =
                let listed : constructs_at d.text (scope_of path e) ≡ flat_map (λ (item : PlainItem). body_constructs d.text item.body) e.items = grind (arith, box) in
                let i = from_flat (λ (item : PlainItem). body_constructs d.text item.body) e.items c (subst (λ l. Contains l c) listed has) in
                absurd (none_in_nil c (subst (λ l. Contains l c) (nothing_in e d.text i.0.body (all_there (λ (item : PlainItem). is_of_empty e item.body) e.items empty i.0 i.1)) i.2))

  -- texts of bits stay, where the module stays or the bit is of a port
  text_same : (b : Bit) (e : PlainModule) → module_at d b.path ≡ Some e → (replaced modules e ≡ e) ⊎ (is_port e b.net ≡ true) → bit_text (replaced_design modules d) b ≡ bit_text d b
  text_same b e at either = ap (λ r. path_prefix b.path ++ net_bit_text b.net r b.place) (ap (option_and_then (λ m. range_of m b.net)) (leads b.path e at) ∙ by (place_for modules e) either ∙ sym (ap (option_and_then (λ m. range_of m b.net)) at))
    where
      by : Place modules e → (replaced modules e ≡ e) ⊎ (is_port e b.net ≡ true) → range_of (replaced modules e) b.net ≡ range_of e b.net
      by (Stays f) either = ap (λ z. range_of z b.net) f
      by (Goes m empty named goes) (inl same) = ap (λ z. range_of z b.net) same
      by (Goes m empty named goes) (inr port) = ap (λ z. range_of z b.net) goes ∙ (may e m (there b.path e at) empty named).ranges b.net port

  -- the bits of ports of the top
  port_there : (test : Option Dir → Bool) → test None ≡ false → (b : Bit) → Contains (flat_map (bits_of_net []) (filter (λ (net : NetInfo). test net.port) (nets_of d.top))) b → (b.path ≡ []) × (is_port d.top b.net ≡ true)
  port_there test none b has =
      let net = from_flat (bits_of_net []) (filter (λ (net : NetInfo). test net.port) (nets_of d.top)) b has in
      let kept = kept_from (λ (net : NetInfo). test net.port) (nets_of d.top) net.0 net.1 in
      let n = from_map (net_of d.top) (net_names d.top) net.0 kept.0 in
      let bit = from_map (λ (k : ℕ). record { path = []; net = net.0.name; place = k }) _ b net.2 in
      let name : b.net ≡ n.0 = sym (ap (λ (z : Bit). z.net) bit.2) ∙ sym (ap (λ (z : NetInfo). z.name) n.2) in
      (sym (ap (λ (z : Bit). z.path) bit.2), subst (λ z. is_port d.top z ≡ true) (sym name) (directed n.0 (port_directed n.0 net.0 n.2 kept.1)))
    where
      port_directed : (n : List ℕ) (net : NetInfo) → net_of d.top n ≡ net → test net.port ≡ true → (dir : Dir) × (port_direction d.top n ≡ Some dir)
      port_directed n net same e = by (port_direction d.top n) refl
        where
          by : (o : Option Dir) → port_direction d.top n ≡ o → (dir : Dir) × (port_direction d.top n ≡ Some dir)
          by None f = absurd (true≢false (sym (ap test (sym f ∙ ap (λ (z : NetInfo). z.port) same) ∙ e) ∙ none))
          by (Some dir) f = (dir, f)

      directed : (n : List ℕ) → (dir : Dir) × (port_direction d.top n ≡ Some dir) → is_port d.top n ≡ true
      directed n x = directed_is_port d.top n x.0 x.1

  port_text : (test : Option Dir → Bool) → test None ≡ false → (b : Bit) → Contains (flat_map (bits_of_net []) (filter (λ (net : NetInfo). test net.port) (nets_of d.top))) b → bit_text (replaced_design modules d) b ≡ bit_text d b
  port_text test none b has =
      let p = port_there test none b has in
      text_same b d.top (ap (module_at d) p.0) (inr p.1)

  pub input_text : (b : Bit) → Contains (top_inputs d) b → bit_text (replaced_design modules d) b ≡ bit_text d b
  input_text = port_text (λ o. list_any is_input (option_to_list o)) refl

  pub output_text : (b : Bit) → Contains (top_outputs d) b → bit_text (replaced_design modules d) b ≡ bit_text d b
  output_text = port_text (λ o. list_any (λ dir. not (is_input dir)) (option_to_list o)) refl

  pub inputs_stay : top_inputs (replaced_design modules d) ≡ top_inputs d
  inputs_stay = by (place_for modules d.top)
    where
      by : Place modules d.top → top_inputs (replaced_design modules d) ≡ top_inputs d
      by (Stays f) = ap (λ z. input_bits (scope_of [] z)) f
      by (Goes m empty named goes) = ap (λ z. input_bits (scope_of [] z)) goes ∙ same_inputs [] d.top m (may d.top m laws.top empty named)

  pub outputs_stay : top_outputs (replaced_design modules d) ≡ top_outputs d
  outputs_stay = by (place_for modules d.top)
    where
      by : Place modules d.top → top_outputs (replaced_design modules d) ≡ top_outputs d
      by (Stays f) = ap (λ z. output_bits (scope_of [] z)) f
      by (Goes m empty named goes) = ap (λ z. output_bits (scope_of [] z)) goes ∙ same_outputs [] d.top m (may d.top m laws.top empty named)

  -- a register is in a module that is not empty
  pub register_text : (r : RegisterBit) → Contains (registers d) r → bit_text (replaced_design modules d) r.bit ≡ bit_text d r.bit
  register_text r has = text_same r.bit r.scope.source at (by (place_for modules r.scope.source))
    where
      is : IsStored d r
      is = stored_there laws.stored_law laws.parts_law d r (registers_stored d r has)

      at : module_at d r.bit.path ≡ Some r.scope.source
      at = ap (module_at d) is.path ∙ laws.ends.reached r.scope is.scope

      by : Place modules r.scope.source → (replaced modules r.scope.source ≡ r.scope.source) ⊎ (is_port r.scope.source r.bit.net ≡ true)
      by (Stays f) = inl f
      by (Goes m empty named goes) = absurd (empty_stores laws.always d.text r.scope empty r.item is.item)

  pub vector_too : (x : Vector) (w : World) → HasVector (replaced_design modules d) x w ↔ HasVector d x w
  vector_too x w = (there, back)
    where
      there : HasVector (replaced_design modules d) x w → HasVector d x w
      there has = record {
        inputs = all_from (λ b. bit_in w b ≡ x (TopInput (bit_text d b))) (top_inputs d) (λ b h. All-contains (λ b. bit_in w b ≡ x (TopInput (bit_text (replaced_design modules d) b))) (top_inputs d) b (subst (All (λ b. bit_in w b ≡ x (TopInput (bit_text (replaced_design modules d) b)))) inputs_stay has.inputs) h ∙ ap (λ t. x (TopInput t)) (input_text b h));
        states = all_from (λ r. bit_in w r.bit ≡ x (State (bit_text d r.bit))) (registers d) (λ r h. All-contains (λ r. bit_in w r.bit ≡ x (State (bit_text (replaced_design modules d) r.bit))) (registers d) r (subst (All (λ r. bit_in w r.bit ≡ x (State (bit_text (replaced_design modules d) r.bit)))) (registers_same modules d laws may) has.states) h ∙ ap (λ t. x (State t)) (register_text r h));
      }

      back : HasVector d x w → HasVector (replaced_design modules d) x w
      back has = record {
        inputs = subst (All (λ b. bit_in w b ≡ x (TopInput (bit_text (replaced_design modules d) b)))) (sym inputs_stay) (all_from (λ b. bit_in w b ≡ x (TopInput (bit_text (replaced_design modules d) b))) (top_inputs d) (λ b h. All-contains (λ b. bit_in w b ≡ x (TopInput (bit_text d b))) (top_inputs d) b has.inputs h ∙ sym (ap (λ t. x (TopInput t)) (input_text b h))));
        states = subst (All (λ r. bit_in w r.bit ≡ x (State (bit_text (replaced_design modules d) r.bit)))) (sym (registers_same modules d laws may)) (all_from (λ r. bit_in w r.bit ≡ x (State (bit_text (replaced_design modules d) r.bit))) (registers d) (λ r h. All-contains (λ r. bit_in w r.bit ≡ x (State (bit_text d r.bit))) (registers d) r has.states h ∙ sym (ap (λ t. x (State t)) (register_text r h))));
      }

  pub outputs_too : (w : World) → outputs_in (replaced_design modules d) w ≡ outputs_in d w
  outputs_too w = ap₂ (λ a b. a ++ b)
      (ap (map (λ b. (TopOutput (bit_text (replaced_design modules d) b), bit_in w b))) outputs_stay ∙ map_within (λ b. (TopOutput (bit_text (replaced_design modules d) b), bit_in w b)) (λ b. (TopOutput (bit_text d b), bit_in w b)) (top_outputs d) (λ b h. ap (λ t. (TopOutput t, bit_in w b)) (output_text b h)))
      (ap (map (λ r. (NextState (bit_text (replaced_design modules d) r.bit), next_bit w r))) (registers_same modules d laws may) ∙ map_within (λ r. (NextState (bit_text (replaced_design modules d) r.bit), next_bit w r)) (λ r. (NextState (bit_text d r.bit), next_bit w r)) (registers d) (λ r h. ap (λ t. (NextState t, next_bit w r)) (register_text r h)))
