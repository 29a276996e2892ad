-- A flat netlist that implements a sound design is what every flat netlist keeps, where its texts are printable.
use Rattle.std.proofs.Common.{◌≡◌, ◌≢◌, ℕ, suc, ◌+◌, ◌<◌, ◌≤◌, Bool, true, false, not, if◌then◌else◌, List, [], ◌∷◌, map, filter, filter_map, flat_map, find, length, get_or, All, AllPairs, Option, Some, None, IfSome, refl, sym, ap, ap₂, ◌∙◌, subst, arith, length-append}
use Rattle.std.specs.Prelude.{option_to_list}
use Rattle.std.specs.List.{AllZip, cons_option, list_any}
use Rattle.std.proofs.lemmas.List.{length-map, get_or-map}
use Rattle.std.proofs.lemmas.List.Filters.{length-filter_both}
use Rattle.std.proofs.lemmas.List.Elements.{All-nil, All-cons}
use Rattle.std.proofs.lemmas.Option.{slice_get_within}
use Rattle.bb_names.specs.Faults.{is_input}
use Rattle.bb_names.specs.Nets.{nets_of}
use Rattle.bb_net.specs.Netlists.{box_at}
use Rattle.bb_net.specs.Pairs.{BoxTexts, NamesPins}
use Rattle.bb_net.specs.declared.flat.Reg.{Reg}
use Rattle.bb_net.specs.Flats.{FlatNet, AreNamed, HasDistinctNames, ArePrintable, IsWithinLimits, IsFlat}
use Rattle.bb_design.specs.Hierarchy.{Design, root, instances, boxes, is_box}
use Rattle.bb_design.specs.Inside.Allowed.{IsBounded}
use Rattle.bb_design.specs.NetBits.{same_bit, net_order, scope_bits, top_inputs, top_outputs, input_bits, output_bits, bits_of_net}
use Rattle.bb_implements.specs.Places.{NetBit, data_places}
use Rattle.bb_design.specs.Refusals.{BoxTexts as BoxCause, RegisterTexts, PortTexts, IsSoundDesign, box_paths, register_texts}
use Rattle.bb_design.specs.Registers.{RegisterBit, registers, stored}
use Rattle.bb_implements.specs.Implements.{IsClockInput, IsRegister, Implements, box_number}
use Rattle.bb_design.specs.Texts.{bit_text, path_text}
use Rattle.bb_implements.proofs.BoxModules.{pins_by_modules}
use Rattle.bb_implements.proofs.CellCounts.{nets_are_no_larger}
use Rattle.bb_implements.proofs.ContentTables.{one_place, none, number_of_box, box_of, list_count, text_count, text_is, path_is, pins_are, number_there}
use Rattle.bb_lemmas.proofs.Zips.{zip_length}
use Rattle.bb_design.specs.Laws.DesignLaws.{DesignLaws}

-- lists that go together place by place
zip_from : {A B : Type 0} (R : A → B → Type 0) (xs : List A) (ys : List B) (a : A) (b : B) → length xs ≡ length ys → ((i : ℕ) → i < length xs → R (get_or xs i a) (get_or ys i b)) → AllZip R xs ys
zip_from R [] [] a b same each = tt
zip_from R [] (y ∷ ys) a b same each = absurd (omega (arith, same))
zip_from R (x ∷ xs) [] a b same each = absurd (omega (arith, same))
zip_from R (x ∷ xs) (y ∷ ys) a b same each = (each 0 (omega arith), zip_from R xs ys a b (omega (arith, same)) (λ i fits. each (suc i) (omega (arith, fits))))

pub zip_map : {A B C : Type 0} (R : A → B → Type 0) (f : A → C) (g : B → C) → ((x : A) (y : B) → R x y → g y ≡ f x) → (xs : List A) (ys : List B) → AllZip R xs ys → map g ys ≡ map f xs
zip_map R f g each [] [] all = refl
zip_map R f g each [] (y ∷ ys) all = absurd all
zip_map R f g each (x ∷ xs) [] all = absurd all
zip_map R f g each (x ∷ xs) (y ∷ ys) all = ap₂ ◌∷◌ (each x y all.0) (zip_map R f g each xs ys all.1)

zip_all : {A B : Type 0} (R : A → B → Type 0) (P : B → Type 0) → ((x : A) (y : B) → R x y → P y) → (xs : List A) (ys : List B) → AllZip R xs ys → All P ys
zip_all R P each [] [] all = All-nil _
zip_all R P each [] (y ∷ ys) all = absurd all
zip_all R P each (x ∷ xs) [] all = absurd all
zip_all R P each (x ∷ xs) (y ∷ ys) all = All-cons P y ys (each x y all.0) (zip_all R P each xs ys all.1)

filtered_length : {A B : Type 0} (f : A → List B) (p : A → Bool) (xs : List A) → length (flat_map f (filter p xs)) ≤ length (flat_map f xs)
filtered_length f p [] = omega arith
filtered_length f p (x ∷ xs) = omega (arith, by (p x) (filtered_length f p xs), length-append (f x) (flat_map f xs))
  where
    by : (b : Bool) → length (flat_map f (filter p xs)) ≤ length (flat_map f xs) → length (flat_map f (if b then x ∷ filter p xs else filter p xs)) ≤ length (f x) + length (flat_map f xs)
    by true less = omega (arith, less, length-append (f x) (flat_map f (filter p xs)))
    by false less = omega (arith, less)

chosen_length : {A B : Type 0} (h : A → Option B) (xs : List A) → length (filter_map h xs) ≤ length xs
chosen_length h [] = omega arith
chosen_length h (x ∷ xs) = by (h x) (chosen_length h xs)
  where
    by : (o : Option _) → length (filter_map h xs) ≤ length xs → length (cons_option o (filter_map h xs)) ≤ suc (length xs)
    by None less = omega (arith, less)
    by (Some y) less = omega (arith, less)

module _ (of_designs : DesignLaws) (d : Design) (f : FlatNet) (bounded : IsBounded d) (sound : IsSoundDesign d) (occurs : Implements d f) where
  register_count : length f.regs ≡ length (registers d)
  register_count = sym (zip_length (IsRegister d) (registers d) f.regs occurs.regs)

  in_count : length f.ins ≡ length (top_inputs d)
  in_count = ap length occurs.ins ∙ length-map (top_inputs d) (bit_text d)

  out_count : length f.outs ≡ length (top_outputs d)
  out_count = ap length occurs.outs ∙ length-map (top_outputs d) (bit_text d)

  net_outs : length f.net.outs ≡ length (top_outputs d) + length (registers d)
  net_outs = ap length occurs.ordered.outs ∙ length-map occurs.cells.outs occurs.ordered.to ∙ ap length occurs.listed.outs
      ∙ length-append (map (λ b. occurs.listed.number (NetBit b)) (top_outputs d)) (map occurs.listed.number (data_places d occurs.lowering))
      ∙ ap₂ ◌+◌ (length-map (top_outputs d) (λ b. occurs.listed.number (NetBit b))) (length-map (data_places d occurs.lowering) occurs.listed.number ∙ length-map (registers d) _)

  names_pins : (b : ℕ) → b < length f.boxes → NamesPins (get_or f.boxes b (none d f occurs)) (box_at f.net.boxes b)
  names_pins b fits =
      let inside : b < length f.net.boxes = omega (arith, fits, text_count d f occurs) in
      let pins = pins_are d f occurs b inside in
      subst (λ t. NamesPins t (box_at f.net.boxes b)) (sym (text_is d f occurs b inside)) (record {
        ins = length-map (input_bits (box_of d f occurs b)) _ ∙ sym pins.0;
        outs = length-map (output_bits (box_of d f occurs b)) _ ∙ sym pins.1;
      })

  pub are_named : AreNamed f
  are_named = record {
    inputs = occurs.ordered.inputs ∙ occurs.listed.inputs ∙ length-append (top_inputs d) (map (λ (r : RegisterBit). r.bit) (registers d)) ∙ ap₂ ◌+◌ (sym in_count) (length-map (registers d) (λ (r : RegisterBit). r.bit) ∙ sym register_count);
    outputs = omega (arith, net_outs, out_count, register_count);
    boxes = zip_from NamesPins f.boxes f.net.boxes (none d f occurs) (record { ins = []; outs = [] }) (text_count d f occurs) names_pins;
  }

  register_texts_are : map (λ (r : Reg). r.text) f.regs ≡ register_texts d
  register_texts_are = zip_map (IsRegister d) (λ (r : RegisterBit). bit_text d r.bit) (λ (r : Reg). r.text) (λ x y is. is.text) (registers d) f.regs occurs.regs

  boxes_apart : AllPairs ◌≢◌ (map (λ (b : BoxTexts). b.path) f.boxes)
  boxes_apart i j e less fits same =
      let text = λ (b : BoxTexts). b.path in
      let long : length (map text f.boxes) ≡ length f.net.boxes = length-map f.boxes text ∙ text_count d f occurs in
      let at_i : i < length f.net.boxes = omega (arith, less, fits, long) in
      let at_j : j < length f.net.boxes = omega (arith, fits, long) in
      let path_i : get_or (map text f.boxes) i e ≡ path_text (box_of d f occurs i).path = get_or-map text f.boxes i (none d f occurs) e (omega (arith, at_i, text_count d f occurs)) ∙ path_is d f occurs i at_i in
      let path_j : get_or (map text f.boxes) j e ≡ path_text (box_of d f occurs j).path = get_or-map text f.boxes j (none d f occurs) e (omega (arith, at_j, text_count d f occurs)) ∙ path_is d f occurs j at_j in
      let there_i = number_there d f occurs i at_i in
      let there_j = number_there d f occurs j at_j in
      let listed : (k : ℕ) → k < length (boxes d) → get_or (box_paths d) k e ≡ path_text (box_number d k).path = λ k inside. get_or-map (λ s. path_text s.path) (boxes d) k (root d) e inside in
      let paths = length-map (boxes d) (λ s. path_text s.path) in
      let numbers : number_of_box d f occurs i ≡ number_of_box d f occurs j = one_place (box_paths d) (sound BoxCause) (number_of_box d f occurs i) (number_of_box d f occurs j) e (omega (arith, there_i, paths)) (omega (arith, there_j, paths))
      (listed (number_of_box d f occurs i) there_i ∙ sym path_i ∙ same ∙ path_j ∙ sym (listed (number_of_box d f occurs j) there_j)) in
      occurs.ordered.numbers_apart i j 0 less (omega (arith, at_j, occurs.ordered.box_count, occurs.ordered.number_count)) numbers

  are_apart : HasDistinctNames f
  are_apart = record {
    ins = subst (AllPairs ◌≢◌) (sym occurs.ins) (sound PortTexts).0;
    regs = subst (AllPairs ◌≢◌) (sym register_texts_are) (sound RegisterTexts);
    outs = subst (AllPairs ◌≢◌) (sym occurs.outs) (sound PortTexts).1;
    boxes = boxes_apart;
  }

  root_bits : length (scope_bits (root d)) ≤ length (net_order d)
  root_bits = omega (arith, length-append (scope_bits (root d)) (flat_map scope_bits (instances d)))

  outputs_few : length (top_outputs d) ≤ length (net_order d)
  outputs_few = omega (arith, root_bits, filtered_length (bits_of_net []) (λ net. list_any (λ dir. not (is_input dir)) (option_to_list net.port)) (nets_of d.top))

  is_within : IsWithinLimits f
  is_within = record {
    cells = omega (arith, nets_are_no_larger of_designs d f bounded occurs, bounded.small.1);
    outs = omega (arith, net_outs, outputs_few, chosen_length (λ b. find (λ r. same_bit b r.bit) (stored d)) (net_order d), bounded.small.0);
    boxes = omega (arith, sym (list_count d f occurs), occurs.ordered.box_count, length-filter_both is_box (λ s. not (is_box s)) (λ s. refl) (instances d), bounded.small.0);
  }

  -- a clock is an input of the top
  clock_there : (r : RegisterBit) (reg : Reg) → IsRegister d r reg → IfSome reg.clock (λ k. k < length f.ins)
  clock_there r reg is = by reg.clock is.clock.2
    where
      by : (clock : Option ℕ) → IsClockInput d is.clock.0 clock → IfSome clock (λ k. k < length f.ins)
      by None h = tt
      by (Some k) h = omega (arith, in_count, slice_get_within (top_inputs d) k h.0 h.1)

  pub is_flat : ArePrintable f → IsFlat f
  is_flat printable = record {
    net = occurs.netlist;
    named = are_named;
    apart = are_apart;
    printable = printable;
    modules = pins_by_modules of_designs d bounded f occurs;
    small = is_within;
    clocks = zip_all (IsRegister d) (λ r. IfSome r.clock (λ k. k < length f.ins)) clock_there (registers d) f.regs occurs.regs;
  }
