-- The bits of the filled text as a design: each net has one bit, its ports are those of the netlist in their order, and a bit is called as
-- its net.
use Rattle.std.proofs.Common.{◌≡◌, ◌≢◌, ◌∙◌, inl, inr, ℕ, zero, suc, Bool, true, false, true≢false, not, Option, None, option_map, option_to_list, List, [], ◌∷◌, ◌++◌, append-nil, append_assoc, map, filter, filter_map, flat_map, All, AllPairs, Contains, refl, sym, ap, ap₂, subst}
use Rattle.std.specs.List.{list_any}
use Rattle.std.proofs.lemmas.List.{map-append}
use Rattle.std.proofs.lemmas.List.Elements.{All-map, All-weaker, filter-append}
use Rattle.bb_bits.specs.Earlier.{once}
use Rattle.bb_bits.specs.Names.{same_name}
use Rattle.bb_bits.specs.Tables.{TableBits}
use Rattle.bb_ast.specs.declared.module.Dir.{Dir}
use Rattle.bb_ast.specs.Syntax.{PlainModule}
use Rattle.bb_names.specs.declared.net.NetInfo.{NetInfo}
use Rattle.bb_names.specs.Declarations.{Declaration, declarations, implicit_names}
use Rattle.bb_names.specs.Faults.{is_input}
use Rattle.bb_names.specs.Nets.{net_names, net_of, nets_of}
use Rattle.bb_names.specs.Ranges.{range_width}
use Rattle.bb_names.specs.Sites.{module_named}
use Rattle.bb_net.specs.Flats.{FlatNet}
use Rattle.bb_fill.specs.Lines.{Line, Module, Input, Output, Reg, Gate, Assign, Always, End}
use Rattle.bb_fill.specs.Words.{stem_of}
use Rattle.bb_fill.specs.Filled.{filled_lines}
use Rattle.bb_fill.specs.Laws.{IsReady}
use Rattle.bb_readback.specs.Laws.Modules.{bodies_of, filled_module}
use Rattle.bb_design.specs.Hierarchy.{Instance, Scope, below, instances, instances_in, instances_of, path_to, root, scopes, too_low}
use Rattle.bb_design.specs.NetBits.{bits_from, bits_of_net, net_order, scope_bits, top_inputs, top_outputs}
use Rattle.bb_design.specs.Refusals.{input_texts, output_texts}
use Rattle.bb_design.specs.Texts.{bit_text, index_text}
use Rattle.bb_lemmas.proofs.Apart.{pairs_tail}
use Rattle.bb_lemmas.proofs.Members.{all_from, contains_cases, kept_from, none_in_nil}
use Rattle.bb_lemmas.proofs.Names.{same_self}
use Rattle.bb_readback.specs.Laws.Designs.{filled_design}
use Rattle.bb_readback.proofs.Clashes.{AreOthers, names_differ}
use Rattle.bb_readback.proofs.Directions.{input_port, no_port, output_port}
use Rattle.bb_readback.proofs.Items.{each_single, flat_items, module_declares}
use Rattle.bb_readback.proofs.Lists.{first_all, flat_none}
use Rattle.bb_readback.proofs.Meanings.{bit_named}
use Rattle.bb_readback.proofs.Ports.{head_names, ports_differ}
use Rattle.bb_readback.proofs.Meant.{Declares}
use Rattle.bb_readback.proofs.MeantNames.{no_range}
use Rattle.bb_readback.proofs.Sifted.{all_kept, none_kept}

-- names that differ precede it, and none of them follows
once_prefix : (xs ys : List (List ℕ)) → AllPairs ◌≢◌ xs
    → (rest : List (List ℕ)) × (once (xs ++ ys) ≡ xs ++ rest) × ((n : List ℕ) → Contains rest n → Contains xs n → ⊥)
once_prefix [] ys apart = (once ys, refl, λ n has none. none_in_nil n none)
once_prefix (x ∷ xs) ys apart =
    let other = λ (m : List ℕ). not (same_name x m) in
    let before = once_prefix xs ys (pairs_tail ◌≢◌ x xs apart) in
    let differ = All-weaker (λ m. x ≢ m) (λ m. other m ≡ true) (λ m differs. ap not (names_differ x m differs)) xs (first_all ◌≢◌ x xs apart) in
    let kept = ap (filter other) before.1 ∙ filter-append other xs before.0 ∙ ap (λ l. l ++ filter other before.0) (all_kept other xs differ) in (
      filter other before.0,
      ap (λ l. x ∷ l) kept,
      λ n has there.
          let from = kept_from other before.0 n has in
          elim (contains_cases x xs n there) [
            | inl same ↦ true≢false (sym from.1 ∙ ap not (subst (λ k. same_name x k ≡ true) same (same_self x)))
            | inr more ↦ before.2 n from.0 more
          ],
    )

-- the tests by which ports are reported

abbrev is_in : Option Dir → Bool
is_in port = list_any is_input (option_to_list port)

abbrev is_out : Option Dir → Bool
is_out port = list_any (λ dir. not (is_input dir)) (option_to_list port)

-- no line of the text is an instance
lines_call_none : (stem : List ℕ) (line : Line) → flat_map instances_in (bodies_of stem line) ≡ []
lines_call_none stem (Module ports) = refl
lines_call_none stem (Input name) = refl
lines_call_none stem (Output name) = refl
lines_call_none stem (Reg name) = refl
lines_call_none stem (Gate primitive out ins) = refl
lines_call_none stem (Assign left condition high low) = refl
lines_call_none stem (Always falling clock name data_word) = refl
lines_call_none stem End = refl

-- no scope is below one in which no instance is
none_below : (n : ℕ) (text : List PlainModule) (s : Scope) → instances_of s.source ≡ [] → below n text s ≡ []
unfolding below
none_below zero text s none = refl
none_below (suc n) text s none =
    let scope_of = λ (i : Instance). option_map (λ (m : PlainModule). record { path = path_to s.path i.name; source = m }) (module_named text i.target) in
    ap (λ l. flat_map (λ c. c ∷ below n text c) (filter_map scope_of l)) none

module _ (f : FlatNet) (tables : List TableBits) where
  abbrev here : PlainModule
  here = filled_module f tables

  abbrev scope : Scope
  scope = root (filled_design f tables)

  pub calls_none : instances_of here ≡ []
  calls_none =
      let lines = filled_lines f tables in
      flat_items instances_in (stem_of f) 1 lines
      ∙ flat_none (λ line. flat_map instances_in (bodies_of (stem_of f) line)) lines (all_from _ lines (λ line has. lines_call_none (stem_of f) line))

  pub no_instances : instances (filled_design f tables) ≡ []
  no_instances = none_below too_low (here ∷ []) scope calls_none

  pub one_scope : scopes (filled_design f tables) ≡ scope ∷ []
  one_scope = ap (λ l. scope ∷ l) no_instances

  module _ (ready : IsReady f tables) where
    declares : Declares here f
    declares = module_declares f tables ready

    others : AreOthers f
    others = record { apart = ready.flat.apart; inputs = ready.names.inputs }

    -- a net has one bit
    net_bit : (n : List ℕ) → bits_of_net [] (net_of here n) ≡ bit_named n ∷ []
    net_bit n = ap (λ r. bits_from [] n 0 (range_width r)) (no_range here f declares n)

    pub net_order_is : net_order (filled_design f tables) ≡ map bit_named (net_names here)
    net_order_is =
        ap (flat_map scope_bits) one_scope
        ∙ append-nil (scope_bits scope)
        ∙ each_single (bits_of_net []) (net_of here) bit_named net_bit (net_names here)

    pub bit_text_is : (n : List ℕ) → bit_text (filled_design f tables) (bit_named n) ≡ n
    bit_text_is n = ap (λ r. n ++ index_text r 0) (no_range here f declares n) ∙ append-nil n

    -- the ports are first
    names_after : (rest : List (List ℕ)) × (net_names here ≡ (f.ins ++ f.outs) ++ rest) × ((n : List ℕ) → Contains rest n → Contains (f.ins ++ f.outs) n → ⊥)
    names_after =
        let declared = map (λ (d : Declaration). d.name) (filter (λ (d : Declaration). not d.instance) (declarations here)) in
        let prefix = once_prefix (f.ins ++ f.outs) (declared ++ implicit_names here) (ports_differ [] here f declares others) in
        let named = ap (λ l. once ((l ++ declared) ++ implicit_names here)) (head_names (f.ins ++ f.outs)) in
        (prefix.0, named ∙ ap once (append_assoc (f.ins ++ f.outs) declared (implicit_names here)) ∙ prefix.1, prefix.2)

    -- what a test of ports keeps
    module _ (test : NetInfo → Bool) where
      kept : (names : List (List ℕ)) → All (λ n. test (net_of here n) ≡ true) names → filter test (map (net_of here) names) ≡ map (net_of here) names
      kept names all = all_kept test (map (net_of here) names) (All-map (λ net. test net ≡ true) (net_of here) names all)

      dropped : (names : List (List ℕ)) → All (λ n. test (net_of here n) ≡ false) names → filter test (map (net_of here) names) ≡ []
      dropped names none = none_kept test (map (net_of here) names) (All-map (λ net. test net ≡ false) (net_of here) names none)

      split : filter test (nets_of here) ≡ (filter test (map (net_of here) f.ins) ++ filter test (map (net_of here) f.outs)) ++ filter test (map (net_of here) names_after.0)
      split =
          let nets = map (net_of here) in
          ap (λ l. filter test (nets l)) names_after.1
          ∙ ap (filter test) (map-append (net_of here) (f.ins ++ f.outs) names_after.0)
          ∙ filter-append test (nets (f.ins ++ f.outs)) (nets names_after.0)
          ∙ ap (λ l. l ++ filter test (nets names_after.0)) (ap (filter test) (map-append (net_of here) f.ins f.outs) ∙ filter-append test (nets f.ins) (nets f.outs))

    rest_is : (test : Option Dir → Bool) → test None ≡ false → All (λ n. test (net_of here n).port ≡ false) names_after.0
    rest_is test none = all_from _ names_after.0 (λ n has. ap test (no_port here f declares others n (names_after.2 n has)) ∙ none)

    pub top_inputs_are : top_inputs (filled_design f tables) ≡ map bit_named f.ins
    top_inputs_are =
        let test = λ (net : NetInfo). is_in net.port in
        let ins = kept test f.ins (all_from _ f.ins (λ n has. ap is_in (input_port here f declares others n has))) in
        let outs = dropped test f.outs (all_from _ f.outs (λ n has. ap is_in (output_port here f declares others n has))) in
        let rest = dropped test names_after.0 (rest_is is_in refl) in
        ap (flat_map (bits_of_net [])) (split test ∙ ap₂ ◌++◌ (ap₂ ◌++◌ ins outs) rest ∙ append-nil (map (net_of here) f.ins ++ []) ∙ append-nil (map (net_of here) f.ins))
        ∙ each_single (bits_of_net []) (net_of here) bit_named net_bit f.ins

    pub top_outputs_are : top_outputs (filled_design f tables) ≡ map bit_named f.outs
    top_outputs_are =
        let test = λ (net : NetInfo). is_out net.port in
        let ins = dropped test f.ins (all_from _ f.ins (λ n has. ap is_out (input_port here f declares others n has))) in
        let outs = kept test f.outs (all_from _ f.outs (λ n has. ap is_out (output_port here f declares others n has))) in
        let rest = dropped test names_after.0 (rest_is is_out refl) in
        ap (flat_map (bits_of_net [])) (split test ∙ ap₂ ◌++◌ (ap₂ ◌++◌ ins outs) rest ∙ append-nil (map (net_of here) f.outs))
        ∙ each_single (bits_of_net []) (net_of here) bit_named net_bit f.outs

    -- the texts of the ports

    called : (names : List (List ℕ)) → map (bit_text (filled_design f tables)) (map bit_named names) ≡ names
    called [] = refl
    called (n ∷ names) = ap₂ (λ k l. k ∷ l) (bit_text_is n) (called names)

    pub input_texts_are : input_texts (filled_design f tables) ≡ f.ins
    input_texts_are = ap (map (bit_text (filled_design f tables))) top_inputs_are ∙ called f.ins

    pub output_texts_are : output_texts (filled_design f tables) ≡ f.outs
    output_texts_are = ap (map (bit_text (filled_design f tables))) top_outputs_are ∙ called f.outs
