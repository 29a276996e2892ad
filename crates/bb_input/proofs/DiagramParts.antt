-- all functions of the check, part by part
use Rattle.std.proofs.Common.{◌≡◌, ◌<◌, ◌≤◌, ℕ, ◌+◌, ◌||◌, List, [], ◌∷◌, ◌++◌, map, take, drop, slice_index, sym, ap, ap₂, ◌∙◌, subst, subst₂, arith, append_assoc}
use Rattle.std.specs.Prelude.{All}
use Rattle.bb_bits.specs.Truth.{Truth, quantified_block}
use Rattle.bb_net.specs.Netlists.{Netlist, Pins, IsNetlist}
use Rattle.bb_net.specs.Pairs.{NetPair, IsPair, pin_count}
use Rattle.bb_uniq.specs.declared.store.Ref.{Ref}
use Rattle.bb_uniq.specs.Inside.Nodes.{NodeStore}
use Rattle.bb_uniq.specs.Inside.Meaning.{truth_of}
use Rattle.bb_sym.specs.Laws.{MakingLaws}
use Rattle.bb_sym.specs.Inside.Made.{Makes, AreTooMany, Represents, RepresentAll, HaveCells, ref_at}
use Rattle.bb_sym.specs.Plain.{cell_bit, table, tables, plain_functions_at, block_functions}
use Rattle.bb_input.specs.InputFunctions.{pins_and_inputs, boxes_first, leads, refutes, refuted, lost, stage, pin_places, wrong_functions, missed_functions, quantified_functions, boxes_quantified, boxes_functions, input_functions}
use Rattle.bb_input.proofs.PinLemmas.{pins_there}
use Rattle.bb_input.proofs.RefutingParts.{prefix_refused}

pub few_pins : (p : NetPair) → IsPair p → pin_count p.imp.boxes ≤ 2048
few_pins p pair = omega (arith, pair.small.pins)

pub few_variables : (p : NetPair) → IsPair p → pins_and_inputs p.imp ≤ 2048
few_variables p pair = omega (arith, pair.small.pins)

module _ (making : MakingLaws) (spec imp : Netlist) (a : NodeStore) where
  abbrev pub plain_part : List Truth
  plain_part = plain_functions_at (pins_and_inputs imp) (boxes_first imp) spec imp

  abbrev pub refuting_part : List Truth
  refuting_part = wrong_functions spec imp ++ (missed_functions imp ++ tables (pins_and_inputs imp) (leads imp ∷ refutes spec imp ∷ []))

  abbrev inputs_part : List Truth
  inputs_part = block_functions ◌||◌ (pin_count imp.boxes) imp.inputs (table (pins_and_inputs imp) (refutes spec imp))

  abbrev boxes_part : List Truth
  boxes_part = boxes_functions 0 imp.boxes (refuted spec imp)

  parts_are : plain_part ++ (refuting_part ++ (inputs_part ++ boxes_part)) ≡ input_functions spec imp
  parts_are =
      let last = tables (pins_and_inputs imp) (leads imp ∷ refutes spec imp ∷ []) in
      ap (λ ts. plain_part ++ ts)
      (append_assoc (wrong_functions spec imp) (missed_functions imp ++ last) (quantified_functions spec imp)
      ∙ ap (λ ts. wrong_functions spec imp ++ ts) (append_assoc (missed_functions imp) last (quantified_functions spec imp)))

  pub refused_plain : AreTooMany a plain_part → AreTooMany a (input_functions spec imp)
  refused_plain many = subst (AreTooMany a) parts_are (prefix_refused making a plain_part (refuting_part ++ (inputs_part ++ boxes_part)) many)

  module _ (b : NodeStore) (plain : Makes a b plain_part) where
    later : AreTooMany b (refuting_part ++ (inputs_part ++ boxes_part)) → AreTooMany a (input_functions spec imp)
    later many = subst (AreTooMany a) parts_are (making.refused_then a b plain_part (refuting_part ++ (inputs_part ++ boxes_part)) plain many)

    pub refused_refuting : AreTooMany b refuting_part → AreTooMany a (input_functions spec imp)
    refused_refuting many = later (prefix_refused making b refuting_part (inputs_part ++ boxes_part) many)

    module _ (c : NodeStore) (both : Makes b c refuting_part) (x : Ref) (occur : Represents c (table (pins_and_inputs imp) (refutes spec imp)) x) (pins inputs : ℕ) (ep : pins ≡ pin_count imp.boxes) (ei : inputs ≡ imp.inputs) where
      inputs_are : block_functions ◌||◌ pins inputs (truth_of c x.0) ≡ inputs_part
      inputs_are = ap (block_functions ◌||◌ pins inputs) occur.table ∙ ap₂ (λ k m. block_functions ◌||◌ k m (table (pins_and_inputs imp) (refutes spec imp))) ep ei

      pub refused_inputs : AreTooMany c (block_functions ◌||◌ pins inputs (truth_of c x.0)) → AreTooMany a (input_functions spec imp)
      refused_inputs many = later (making.refused_then b c refuting_part (inputs_part ++ boxes_part) both (prefix_refused making c inputs_part boxes_part (subst (AreTooMany c) inputs_are many)))

      module _ (d : NodeStore) (made : Makes c d (block_functions ◌||◌ pins inputs (truth_of c x.0))) (y : Ref) (left : Represents d (quantified_block ◌||◌ pins inputs (truth_of c x.0)) y) (boxes : List Pins) (eb : boxes ≡ imp.boxes) where
        inputs_made : Makes c d inputs_part
        inputs_made = subst (Makes c d) inputs_are made

        pub refuted_occurs : Represents d (refuted spec imp) y
        refuted_occurs = record { ref = left.ref; table = left.table ∙ (ap (quantified_block ◌||◌ pins inputs) occur.table ∙ ap₂ (λ k m. quantified_block ◌||◌ k m (table (pins_and_inputs imp) (refutes spec imp))) ep ei) }

        boxes_are : boxes_functions 0 boxes (truth_of d y.0) ≡ boxes_part
        boxes_are = ap₂ (λ (k : List Pins) t. boxes_functions 0 k t) eb refuted_occurs.table

        pub refused_boxes : AreTooMany d (boxes_functions 0 boxes (truth_of d y.0)) → AreTooMany a (input_functions spec imp)
        refused_boxes many =
            later (making.refused_then b c refuting_part (inputs_part ++ boxes_part) both (making.refused_then c d inputs_part boxes_part inputs_made (subst (AreTooMany d) boxes_are many)))

        module _ (e : NodeStore) (last : Makes d e (boxes_functions 0 boxes (truth_of d y.0))) where
          pub all_made : Makes a e (input_functions spec imp)
          all_made =
              subst (Makes a e) parts_are
              (making.then a b e plain_part (refuting_part ++ (inputs_part ++ boxes_part)) plain
              (making.then b c e refuting_part (inputs_part ++ boxes_part) both (making.then c d e inputs_part boxes_part inputs_made (subst (Makes d e) boxes_are last))))

          pub lost_occurs : (q : Ref) → Represents e (boxes_quantified 0 boxes (truth_of d y.0)) q → Represents e (lost spec imp) q
          lost_occurs q h = record { ref = h.ref; table = h.table ∙ ap₂ (λ (k : List Pins) t. boxes_quantified 0 k t) eb refuted_occurs.table }

          pub stage_occurs : (b : ℕ) (q : Ref) → Represents e (boxes_quantified (pin_count (take (b + 1) boxes)) (drop (b + 1) boxes) (truth_of d y.0)) q → Represents e (stage spec imp b) q
          stage_occurs b q h = record {
            ref = h.ref;
            table = h.table ∙ ap₂ (λ (k : List Pins) t. boxes_quantified (pin_count (take (b + 1) k)) (drop (b + 1) k) t) eb refuted_occurs.table;
          }

          -- since the cells were made, Refs are kept
          pub pins_occur : (v : a.vars ≡ pins_and_inputs imp) → IsNetlist imp → (of_spec of_imp refs : List Ref) → HaveCells b (boxes_first imp) spec imp of_spec of_imp → refs ≡ map (ref_at of_imp) (pin_places imp.boxes)
              → RepresentAll e (λ q. table (pins_and_inputs imp) (cell_bit (boxes_first imp) imp (slice_index (pin_places imp.boxes) q))) refs
          pins_occur v kept of_spec of_imp refs have picks =
              let since = making.then b c e refuting_part (inputs_part ++ boxes_part) both (making.then c d e inputs_part boxes_part inputs_made (subst (Makes d e) boxes_are last)) in
              let still = making.cells_still b e (boxes_first imp) spec imp of_spec of_imp since.kept have in
              let there = subst (λ n. All (λ place. place < n) (pin_places imp.boxes)) (sym have.imp_whole) (pins_there imp kept) in
              subst₂ (λ n (rs : List Ref). RepresentAll e (λ q. table n (cell_bit (boxes_first imp) imp (slice_index (pin_places imp.boxes) q))) rs) (all_made.kept.vars ∙ v) (sym picks)
              (making.picked_occur e (λ place. table e.vars (cell_bit (boxes_first imp) imp place)) of_imp (pin_places imp.boxes) still.imp_cells there)
