-- where input pins have other bits than their cells
use Rattle.std.proofs.Common.{◌≡◌, ◌<◌, ℕ, suc, Bool, false, List, [], ◌∷◌, length, map, slice_index, sym, ap, ap₂, ◌∙◌, subst, subst₂, arith}
use Rattle.std.specs.Prelude.{All}
use Rattle.std.proofs.lemmas.List.{length-map, get_or-map}
use Rattle.std.proofs.lemmas.List.Elements.{All-append}
use Rattle.bb_bits.specs.Truth.{Truth, variable}
use Rattle.bb_net.specs.Netlists.{Pins, box_at}
use Rattle.bb_net.specs.Pairs.{NetPair, IsPair}
use Rattle.bb_net.specs.Values.{bit_of}
use Rattle.bb_uniq.specs.declared.store.Ref.{Ref}
use Rattle.bb_uniq.specs.Inside.Nodes.{NodeStore}
use Rattle.bb_sym.specs.Laws.{FunctionLaws, MakingLaws}
use Rattle.bb_sym.specs.Inside.Made.{AreRefs, RepresentAll, Represents, HaveCells, ref_at}
use Rattle.bb_sym.specs.Plain.{Function, cell_bit, table}
use Rattle.bb_input.specs.InputFunctions.{pins_and_inputs, boxes_first, given_ins, in_places}
use Rattle.bb_input.specs.Inside.Order.{in_variables}
use Rattle.bb_input.proofs.Readings.{ins_read, variables_within, variables_count}

-- the cells at input pins are there
places_within : (boxes : List Pins) (n : ℕ) → ((b : ℕ) → All (λ pin. pin < n) (box_at boxes b).ins) → All (λ place. place < n) (in_places boxes)
places_within [] n there = λ k d l. absurd (omega (arith, l))
places_within (box ∷ boxes) n there = All-append (λ place. place < n) box.ins (in_places boxes) (there 0) (places_within boxes n (λ b. there (suc b)))

module _ (functions : FunctionLaws) (making : MakingLaws) (s : NodeStore) (p : NetPair) (pair : IsPair p) (v : pins_and_inputs p.imp ≡ s.vars) (vars of_spec of_imp : List Ref) (count : length vars ≡ s.vars)
    (occur : RepresentAll s (variable s.vars) vars) (have : HaveCells s (boxes_first p.imp) p.spec p.imp of_spec of_imp) where
  abbrev pub bits : ℕ → Function
  bits q = λ w. bit_of (given_ins p.imp w) q

  abbrev pub cells : ℕ → Function
  cells q = cell_bit (boxes_first p.imp) p.imp (slice_index (in_places p.imp.boxes) q)

  pub variables_there : All (λ place. place < length vars) (in_variables 0 p.imp.boxes)
  variables_there = λ j d l. let h = variables_within p.imp.boxes 0 (pins_and_inputs p.imp) (omega arith) j d l in omega (arith, h, v, count)

  pub places_there : All (λ place. place < length of_imp) (in_places p.imp.boxes)
  places_there = places_within p.imp.boxes (length of_imp) (λ b j d l. let h = pair.imp.pins_there b j d l in omega (arith, h, have.imp_whole))

  -- the variable of a pin is the bit that the point gives to it
  variable_is : (q : ℕ) → q < length (in_variables 0 p.imp.boxes) → variable s.vars (slice_index (in_variables 0 p.imp.boxes) q) ≡ table s.vars (bits q)
  variable_is q l =
      let at = slice_index (in_variables 0 p.imp.boxes) q in
      let within = variables_within p.imp.boxes 0 (pins_and_inputs p.imp) (omega arith) q 0 l in
      functions.variable_table s.vars at (omega (arith, within, v))
      ∙ functions.same s.vars (λ w. bit_of w at) (bits q) (λ w e. sym (ap (λ (k : List Bool). bit_of k q) (ins_read p.imp.boxes 0 w (omega (arith, e, v))) ∙ get_or-map (bit_of w) (in_variables 0 p.imp.boxes) q 0 false l))

  module _ (fs gs : List Ref) (given : fs ≡ map (ref_at vars) (in_variables 0 p.imp.boxes)) (there : gs ≡ map (ref_at of_imp) (in_places p.imp.boxes)) where
    pub given_occur : RepresentAll s (λ q. table s.vars (bits q)) fs
    given_occur = λ q l.
        let here : q < length (in_variables 0 p.imp.boxes) = omega (arith, l, ap length given, length-map (in_variables 0 p.imp.boxes) (ref_at vars)) in
        let h = making.picked_occur s (variable s.vars) vars (in_variables 0 p.imp.boxes) occur variables_there q (omega (arith, here, length-map (in_variables 0 p.imp.boxes) (ref_at vars))) in
        subst₂ (λ (t : Truth) (refs : List Ref). Represents s t (ref_at refs q)) (variable_is q here) (sym given) h

    pub there_occur : RepresentAll s (λ q. table s.vars (cells q)) gs
    there_occur = subst (RepresentAll s (λ q. table s.vars (cells q))) (sym there) (making.picked_occur s (λ place. table s.vars (cell_bit (boxes_first p.imp) p.imp place)) of_imp (in_places p.imp.boxes) have.imp_cells places_there)

    pub given_refs : AreRefs s fs
    given_refs = λ q l. (given_occur q l).ref

    pub there_refs : AreRefs s gs
    there_refs = λ q l. (there_occur q l).ref

    pub pin_count_is : length fs ≡ length (in_places p.imp.boxes)
    pin_count_is = ap length given ∙ (length-map (in_variables 0 p.imp.boxes) (ref_at vars) ∙ variables_count p.imp.boxes 0)

    pub same_count : length fs ≡ length gs
    same_count = pin_count_is ∙ sym (ap length there ∙ length-map (in_places p.imp.boxes) (ref_at of_imp))

pub picks_are : (refs rs items xs : List Ref) (places ps ns : List ℕ) → xs ≡ items → items ≡ map (ref_at rs) ps → rs ≡ refs → ps ≡ ns → ns ≡ places → xs ≡ map (ref_at refs) places
picks_are refs rs items xs places ps ns e made f g h = e ∙ (made ∙ ap₂ (λ (ks : List Ref) (js : List ℕ). map (ref_at ks) js) f (g ∙ h))
