-- the functions up to the one that says where bits at the pins are refuted
use Rattle.std.proofs.Common.{◌≡◌, ℕ, not, ◌&&◌, List, [], ◌∷◌, ◌++◌, length, map, sym, ap, ap₂, ◌∙◌, subst, inl}
use Rattle.bb_bits.specs.Truth.{Truth, complement_of_table, joined_tables}
use Rattle.bb_net.specs.Netlists.{Netlist}
use Rattle.bb_uniq.specs.declared.store.Ref.{Ref}
use Rattle.bb_uniq.specs.Inside.Nodes.{NodeStore}
use Rattle.bb_uniq.specs.Inside.Meaning.{truth_of, Adds, IsTooMany}
use Rattle.bb_sym.specs.Laws.{FunctionLaws, MakingLaws}
use Rattle.bb_sym.specs.Inside.Made.{Makes, AreTooMany, Represents}
use Rattle.bb_sym.specs.Plain.{table, tables, output_numbers, one_of, first_of}
use Rattle.bb_input.specs.InputFunctions.{pins_and_inputs, is_wrong_output, has_wrong, is_missed, in_places, leads, refutes, wrong_functions, missed_functions}

-- the first tables are among all
pub prefix_refused : MakingLaws → (s : NodeStore) (ts us : List Truth) → AreTooMany s ts → AreTooMany s (ts ++ us)
prefix_refused making s ts us = making.refused_more s ts (ts ++ us) (λ b h. (making.both ts us b).1 (inl h))

-- where outputs are wrong, over so many variables
abbrev pub wrong_over : ℕ → Netlist → Netlist → List Truth
wrong_over k spec imp = tables k (map (is_wrong_output spec imp) (output_numbers imp)) ++ tables k (map (first_of (is_wrong_output spec imp)) (output_numbers imp))

module _ (functions : FunctionLaws) (making : MakingLaws) (spec imp : Netlist) (a : NodeStore) (v : pins_and_inputs imp ≡ a.vars) where
  abbrev n : ℕ
  n = pins_and_inputs imp

  abbrev last_part : List Truth
  last_part = table n (leads imp) ∷ table n (refutes spec imp) ∷ []

  abbrev pub all : List Truth
  all = wrong_functions spec imp ++ (missed_functions imp ++ tables n (leads imp ∷ refutes spec imp ∷ []))

  pub refused_wrong : AreTooMany a (wrong_over a.vars spec imp) → AreTooMany a all
  refused_wrong many = prefix_refused making a (wrong_functions spec imp) (missed_functions imp ++ last_part) (subst (λ k. AreTooMany a (wrong_over k spec imp)) (sym v) many)

  module _ (b : NodeStore) (wrong : Makes a b (wrong_over a.vars spec imp)) where
    wrong_made : Makes a b (wrong_functions spec imp)
    wrong_made = subst (λ k. Makes a b (wrong_over k spec imp)) (sym v) wrong

    pub refused_missed : AreTooMany b (missed_functions imp) → AreTooMany a all
    refused_missed many = making.refused_then a b (wrong_functions spec imp) (missed_functions imp ++ last_part) wrong_made (prefix_refused making b (missed_functions imp) last_part many)

    module _ (c : NodeStore) (missed : Makes b c (missed_functions imp)) (x : Ref) (some : Represents c (table n (one_of (is_missed imp) (length (in_places imp.boxes)))) x) where
      refused_last : AreTooMany c last_part → AreTooMany a all
      refused_last many = making.refused_then a b (wrong_functions spec imp) (missed_functions imp ++ last_part) wrong_made (making.refused_then b c (missed_functions imp) last_part missed many)

      not_is : complement_of_table (truth_of c x.0) ≡ table n (leads imp)
      not_is =
          let f = one_of (is_missed imp) (length (in_places imp.boxes)) in
          ap complement_of_table some.table ∙ functions.combined_tables n (λ a b c. not a) f f f

      pub refused_not : IsTooMany c (complement_of_table (truth_of c x.0)) → AreTooMany a all
      refused_not many =
          refused_last (prefix_refused making c (table n (leads imp) ∷ []) (table n (refutes spec imp) ∷ []) (making.refused_one c (table n (leads imp)) (subst (IsTooMany c) not_is many)))

      module _ (d : NodeStore) (led : Ref) (added : Adds c d (complement_of_table (truth_of c x.0)) led.0) (w : Ref) (wrong_occur : Represents b (table a.vars (has_wrong spec imp)) w) where
        here : Adds c d (table n (leads imp)) led.0
        here = subst (λ t. Adds c d t led.0) not_is added

        pub still_wrong : Represents d (table n (has_wrong spec imp)) w
        still_wrong =
            making.occurs_still c d (table n (has_wrong spec imp)) w added.kept
            (making.occurs_still b c (table n (has_wrong spec imp)) w missed.kept (subst (λ k. Represents b (table k (has_wrong spec imp)) w) (sym v) wrong_occur))

        and_is : joined_tables ◌&&◌ (truth_of d w.0) (truth_of d led.0) ≡ table n (refutes spec imp)
        and_is = ap₂ (joined_tables ◌&&◌) still_wrong.table here.table ∙ functions.combined_tables n (λ a b c. a && b) (has_wrong spec imp) (leads imp) (has_wrong spec imp)

        pub refused_and : IsTooMany d (joined_tables ◌&&◌ (truth_of d w.0) (truth_of d led.0)) → AreTooMany a all
        refused_and many =
            refused_last (making.refused_then c d (table n (leads imp) ∷ []) (table n (refutes spec imp) ∷ []) (making.one c d (table n (leads imp)) led.0 here)
            (making.refused_one d (table n (refutes spec imp)) (subst (IsTooMany d) and_is many)))

        module _ (e : NodeStore) (both : Ref) (also : Adds d e (joined_tables ◌&&◌ (truth_of d w.0) (truth_of d led.0)) both.0) where
          last : Adds d e (table n (refutes spec imp)) both.0
          last = subst (λ t. Adds d e t both.0) and_is also

          pub refuting_made : Makes a e all
          refuting_made =
              making.then a b e (wrong_functions spec imp) (missed_functions imp ++ last_part) wrong_made
              (making.then b c e (missed_functions imp) last_part missed
              (making.then c d e (table n (leads imp) ∷ []) (table n (refutes spec imp) ∷ []) (making.one c d (table n (leads imp)) led.0 here) (making.one d e (table n (refutes spec imp)) both.0 last)))

          pub refuting_occurs : Represents e (table n (refutes spec imp)) both
          refuting_occurs = record { ref = last.ref; table = last.table }
