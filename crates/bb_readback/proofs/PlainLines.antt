-- Each line of a filled text meets what is asked of it: its words have known names, and what it drives is no input and no register.
use Rattle.std.proofs.Common.{◌≡◌, ◌⊎◌, inl, inr, refl, List, [], ◌∷◌, ◌++◌, map, Contains, subst, arith}
use Rattle.std.proofs.lemmas.List.Elements.{All-contains, Contains-append_cases}
use Rattle.bb_bits.specs.Tables.{TableBits}
use Rattle.bb_ast.specs.Syntax.{PlainModule}
use Rattle.bb_net.specs.CutPoints.{state_texts}
use Rattle.bb_net.specs.Flats.{FlatNet, HaveClocks}
use Rattle.bb_fill.specs.Words.{NetWord, Named, stem_of}
use Rattle.bb_fill.specs.Lines.{Line, Module, Input, Output, Reg, Gate, Assign, Always, End}
use Rattle.bb_fill.specs.Filled.{filled_lines}
use Rattle.bb_fill.specs.Laws.{IsReady, NetsAreDrivenOnce, WordsAreApart, WordsAreNets, WordsAreOfNetlist, driven, line_words}
use Rattle.bb_fill.specs.Sizes.{IsSmallText}
use Rattle.bb_readback.specs.Laws.Modules.{filled_module}
use Rattle.bb_lemmas.proofs.Members.{all_from, contains_cases, contains_here, contains_there, from_map, into_flat, none_in_nil}
use Rattle.bb_readback.proofs.Driven.{driven_no_input, driven_no_register, line_of_driving, word_known}
use Rattle.bb_readback.proofs.Forms.{IsDriving, IsNet, IsStoring, are_driving, are_storing, declared_lines, driving_lines, lines_are, storing_lines}
use Rattle.bb_readback.proofs.Items.{module_declares}
use Rattle.bb_readback.proofs.Lines.{IsPlain}
use Rattle.bb_readback.proofs.MeantNames.{other_is_no_input, other_is_no_reg, register_is_reg}
use Rattle.bb_readback.proofs.WordSites.{IsDriven, IsKnown}

module _ (f : FlatNet) (tables : List TableBits) (ready : IsReady f tables) (clocks : HaveClocks f) (small : IsSmallText f tables)
    (nets : NetsAreDrivenOnce) (word_nets : WordsAreNets) (of_netlist : WordsAreOfNetlist) (apart : WordsAreApart) where
  abbrev here : PlainModule
  here = filled_module f tables

  abbrev lines : List Line
  lines = filled_lines f tables

  abbrev IsPlainLine : Line → Type 0
  IsPlainLine line = IsPlain here (stem_of f) line

  known : (line : Line) → Contains lines line → (word : NetWord) → Contains (line_words line) word → IsKnown here (stem_of f) word
  known line has word at n e = word_known f tables ready clocks small word_nets of_netlist word (into_flat line_words lines line word has at) n e

  -- the lines of gates and choices
  module _ (line : Line) (has : Contains (driving_lines f tables) line) where
    known_word : (word : NetWord) → Contains (line_words line) word → IsKnown here (stem_of f) word
    known_word word at = known line (line_of_driving f tables ready line has) word at

    driven_word : (word : NetWord) → Contains (driven line) word → Contains (line_words line) word → IsNet word
        → IsDriven here (stem_of f) word
    driven_word word drives at net =
        let there = into_flat line_words lines line word (line_of_driving f tables ready line has) at in
        let among = into_flat driven (driving_lines f tables) line word has drives in
        let declares = module_declares f tables ready in (
          net,
          λ n e. record {
            known = known_word word at n e;
            no_input = other_is_no_input here f declares n (driven_no_input f tables ready clocks small word_nets of_netlist nets apart word there among n e);
            no_reg = other_is_no_reg here f declares n (driven_no_register f tables ready clocks small word_nets of_netlist nets apart word there among n e);
          },
        )

  driving_plain : (line : Line) → Contains (driving_lines f tables) line → IsDriving line → IsPlainLine line
  driving_plain (Gate primitive out ins) has driving =
      let line = Gate primitive out ins in
      let inputs = all_from (IsKnown here (stem_of f)) ins (λ word at. known_word line has word (contains_there out ins word at)) in
      (driven_word line has out (contains_here out []) (contains_here out ins) driving.0, driving.1, inputs)
  driving_plain (Assign left condition high low) has driving =
      let line = Assign left condition high low in (
        driven_word line has left (contains_here left []) (contains_here left (condition ∷ high ∷ low ∷ [])) driving,
        known_word line has condition (1, omega arith, refl),
        known_word line has high (2, omega arith, refl),
        known_word line has low (3, omega arith, refl),
      )
  driving_plain (Module ports) has driving = absurd driving
  driving_plain (Input name) has driving = absurd driving
  driving_plain (Output name) has driving = absurd driving
  driving_plain (Reg name) has driving = absurd driving
  driving_plain (Always falling clock name data_word) has driving = absurd driving
  driving_plain End has driving = absurd driving

  -- the lines of registers
  storing_plain : (line : Line) → Contains lines line → IsStoring (state_texts f) line → IsPlainLine line
  storing_plain (Always falling clock name data_word) has storing =
      let line = Always falling clock name data_word in (
        known line has (Named clock) (0, omega arith, refl) clock refl,
        known line has (Named name) (1, omega arith, refl) name refl,
        register_is_reg here f (module_declares f tables ready) name storing,
        known line has data_word (2, omega arith, refl),
      )
  storing_plain (Gate primitive out ins) has storing = absurd storing
  storing_plain (Assign left condition high low) has storing = absurd storing
  storing_plain (Module ports) has storing = absurd storing
  storing_plain (Input name) has storing = absurd storing
  storing_plain (Output name) has storing = absurd storing
  storing_plain (Reg name) has storing = absurd storing
  storing_plain End has storing = absurd storing

  -- nothing is asked of the header and the declarations
  declared_plain : (line : Line) → Contains (declared_lines f) line → IsPlainLine line
  declared_plain line has = by (Contains-append_cases (Module (f.ins ++ f.outs) ∷ map Input f.ins ++ map Output f.outs) (map Reg (state_texts f)) line has)
    where
      port : Contains (map Input f.ins) line ⊎ Contains (map Output f.outs) line → IsPlainLine line
      port (inl there) = let n = from_map Input f.ins line there in subst IsPlainLine n.2 tt
      port (inr there) = let n = from_map Output f.outs line there in subst IsPlainLine n.2 tt

      prefix : (Module (f.ins ++ f.outs) ≡ line) ⊎ Contains (map Input f.ins ++ map Output f.outs) line → IsPlainLine line
      prefix (inl same) = subst IsPlainLine same tt
      prefix (inr there) = port (Contains-append_cases (map Input f.ins) (map Output f.outs) line there)

      by : Contains (Module (f.ins ++ f.outs) ∷ map Input f.ins ++ map Output f.outs) line ⊎ Contains (map Reg (state_texts f)) line
          → IsPlainLine line
      by (inl there) = prefix (contains_cases (Module (f.ins ++ f.outs)) (map Input f.ins ++ map Output f.outs) line there)
      by (inr there) = let n = from_map Reg (state_texts f) line there in subst IsPlainLine n.2 tt

  pub line_plain : (line : Line) → Contains lines line → IsPlainLine line
  line_plain line has =
      by (Contains-append_cases (declared_lines f ++ driving_lines f tables) (storing_lines f ++ End ∷ []) line (subst (λ l. Contains l line) (lines_are f tables) has))
    where
      prefix : Contains (declared_lines f) line ⊎ Contains (driving_lines f tables) line → IsPlainLine line
      prefix (inl there) = declared_plain line there
      prefix (inr there) = driving_plain line there (All-contains IsDriving (driving_lines f tables) line (are_driving f tables ready) there)

      last : (End ≡ line) ⊎ Contains [] line → IsPlainLine line
      last (inl same) = subst IsPlainLine same tt
      last (inr more) = absurd (none_in_nil line more)

      back : Contains (storing_lines f) line ⊎ Contains (End ∷ []) line → IsPlainLine line
      back (inl there) = storing_plain line has (All-contains (IsStoring (state_texts f)) (storing_lines f) line (are_storing f) there)
      back (inr there) = last (contains_cases End [] line there)

      by : Contains (declared_lines f ++ driving_lines f tables) line ⊎ Contains (storing_lines f ++ End ∷ []) line → IsPlainLine line
      by (inl there) = prefix (Contains-append_cases (declared_lines f) (driving_lines f tables) line there)
      by (inr there) = back (Contains-append_cases (storing_lines f) (End ∷ []) line there)
