-- the parts of the check of all outputs together
use Rattle.std.proofs.Common.{◌≡◌, ℕ, ◌+◌, ◌&&◌, List, ◌++◌, map, length, sym, ap, ap₂, ◌∙◌, subst, append_assoc}
use Rattle.bb_bits.specs.Truth.{Truth, quantified_block}
use Rattle.bb_net.specs.Netlists.{Netlist}
use Rattle.bb_net.specs.Values.{output_pins}
use Rattle.bb_uniq.specs.declared.store.Ref.{Ref}
use Rattle.bb_uniq.specs.Inside.Nodes.{NodeStore}
use Rattle.bb_uniq.specs.Inside.Meaning.{truth_of}
use Rattle.bb_sym.specs.Functions.{plain_functions, is_wrong, some_wrong, first_some_wrong, all_always_wrong, inputs_and_pins, for_all_pins, output_functions}
use Rattle.bb_sym.specs.Plain.{block_functions, table, tables, output_numbers}
use Rattle.bb_sym.specs.Inside.Made.{Makes, AreTooMany, Represents}
use Rattle.bb_sym.proofs.MadeLemmas.{Makes-then, too_many_within, too_many_then, within_append_left}

-- where each output is wrong, and where one of the first is
abbrev pub wrong_tables : ℕ → Netlist → Netlist → List Truth
wrong_tables n spec imp = tables n (map (is_wrong spec imp) (output_numbers imp)) ++ tables n (map (first_some_wrong spec imp) (output_numbers imp))

module _ (spec imp : Netlist) (inputs pins : ℕ) (i : inputs ≡ imp.inputs) (k : pins ≡ output_pins imp.boxes) (a : NodeStore) (v : inputs + pins ≡ a.vars) where
  abbrev n : ℕ
  n = inputs_and_pins imp

  abbrev any_table : Truth
  any_table = table n (some_wrong spec imp (length imp.outs))

  abbrev pins_part : List Truth
  pins_part = for_all_pins imp any_table

  parts_are : plain_functions spec imp ++ (wrong_tables n spec imp ++ pins_part) ≡ output_functions spec imp
  parts_are = ap (λ ts. plain_functions spec imp ++ ts) (append_assoc (tables n (map (is_wrong spec imp) (output_numbers imp))) (tables n (map (first_some_wrong spec imp) (output_numbers imp))) pins_part)

  vars_is : a.vars ≡ n
  vars_is = sym v ∙ ap₂ ◌+◌ i k

  pub refused_plain : AreTooMany a (plain_functions spec imp) → AreTooMany a (output_functions spec imp)
  refused_plain many =
      let fs = plain_functions spec imp in
      let rest = wrong_tables n spec imp ++ pins_part in
      subst (AreTooMany a) parts_are (too_many_within a fs (fs ++ rest) (within_append_left fs rest) many)

  module _ (b : NodeStore) (plain : Makes a b (plain_functions spec imp)) where
    pub refused_wrong : AreTooMany b (wrong_tables b.vars spec imp) → AreTooMany a (output_functions spec imp)
    refused_wrong many =
        let here : AreTooMany b (wrong_tables n spec imp) = subst (λ m. AreTooMany b (wrong_tables m spec imp)) (plain.kept.vars ∙ vars_is) many in
        subst (AreTooMany a) parts_are
        (too_many_then a b (plain_functions spec imp) (wrong_tables n spec imp ++ pins_part) plain (too_many_within b (wrong_tables n spec imp) (wrong_tables n spec imp ++ pins_part) (within_append_left (wrong_tables n spec imp) pins_part) here))

    module _ (d : NodeStore) (any : Ref) (wrong : Makes b d (wrong_tables b.vars spec imp)) (occur : Represents d (table b.vars (some_wrong spec imp (length imp.outs))) any) where
      wrong_made : Makes b d (wrong_tables n spec imp)
      wrong_made = subst (λ m. Makes b d (wrong_tables m spec imp)) (plain.kept.vars ∙ vars_is) wrong

      any_is : truth_of d any.0 ≡ any_table
      any_is = occur.table ∙ ap (λ m. table m (some_wrong spec imp (length imp.outs))) (plain.kept.vars ∙ vars_is)

      pins_are : block_functions ◌&&◌ inputs pins (truth_of d any.0) ≡ pins_part
      pins_are = ap (block_functions ◌&&◌ inputs pins) any_is ∙ ap₂ (λ from count. block_functions ◌&&◌ from count any_table) i k

      pub refused_last : AreTooMany d (block_functions ◌&&◌ inputs pins (truth_of d any.0)) → AreTooMany a (output_functions spec imp)
      refused_last many =
          subst (AreTooMany a) parts_are
          (too_many_then a b (plain_functions spec imp) (wrong_tables n spec imp ++ pins_part) plain (too_many_then b d (wrong_tables n spec imp) pins_part wrong_made (subst (AreTooMany d) pins_are many)))

      pub output_makes : (e : NodeStore) → Makes d e (block_functions ◌&&◌ inputs pins (truth_of d any.0)) → Makes a e (output_functions spec imp)
      output_makes e last =
          subst (Makes a e) parts_are
          (Makes-then a b e (plain_functions spec imp) (wrong_tables n spec imp ++ pins_part) plain (Makes-then b d e (wrong_tables n spec imp) pins_part wrong_made (subst (Makes d e) pins_are last)))

      pub output_occurs : (e : NodeStore) (r : Ref) → Represents e (quantified_block ◌&&◌ inputs pins (truth_of d any.0)) r → Represents e (all_always_wrong spec imp) r
      output_occurs e r h = record { ref = h.ref; table = h.table ∙ (ap (quantified_block ◌&&◌ inputs pins) any_is ∙ ap₂ (λ from count. quantified_block ◌&&◌ from count any_table) i k) }
