-- The words of the lines are numbers, or nets that something drives.
use Rattle.std.proofs.Common.{◌≡◌, ◌⊎◌, inl, inr, ℕ, true, false, not, List, [], ◌∷◌, ◌++◌, map, refl, sym, ap, subst}
use Rattle.std.specs.Prelude.{All, Contains}
use Rattle.std.specs.List.{flat_map}
use Rattle.std.proofs.lemmas.List.Elements.{All-append, All-head, All-nil, All-tail, Contains-append_cases, Contains-append_left, Contains-append_right}
use Rattle.bb_bits.specs.Earlier.{has_name}
use Rattle.bb_bits.specs.Names.{same_name}
use Rattle.bb_bits.specs.Tables.{TableBits}
use Rattle.bb_lemmas.proofs.Members.{any_there, contains-map, either, from_map, keeps}
use Rattle.bb_lemmas.proofs.Names.{same_equal}
use Rattle.bb_net.specs.CutPoints.{state_texts}
use Rattle.bb_net.specs.Flats.{FlatNet, HaveClocks}
use Rattle.bb_fill.specs.Words.{NetWord, Named}
use Rattle.bb_fill.specs.Filled.{filled_lines}
use Rattle.bb_fill.specs.Sizes.{plain_outputs}
use Rattle.bb_fill.specs.Laws.{IsNumber, IsReady, WordsAreNets, all_nets, driven, line_words}
use Rattle.bb_fill.proofs.CellOccurs.{port_words}
use Rattle.bb_fill.proofs.Driven.{cell_nets, driven_texts}
use Rattle.bb_fill.proofs.DrivenOnce.{nets_are}
use Rattle.bb_fill.proofs.LinesOccur.{lines_occur}
use Rattle.bb_fill.proofs.Occurs.{occur_words}

all_flat_map : {A B : Type 0} (P : B → Type 0) (g : A → List B) (xs : List A) → All (λ x. All P (g x)) xs → All P (flat_map g xs)
all_flat_map P g [] all = All-nil P
all_flat_map P g (x ∷ xs) all = All-append P (g x) (flat_map g xs) (All-head (λ y. All P (g y)) x xs all) (all_flat_map P g xs (All-tail (λ y. All P (g y)) x xs all))

module _ (f : FlatNet) (tables : List TableBits) (ready : IsReady f tables) where
  -- a number, or a net that something drives
  abbrev IsNet : NetWord → Type 0
  IsNet word = IsNumber word ⊎ Contains (all_nets f tables) word

  driven_net : (z : NetWord) → Contains (flat_map driven (filled_lines f tables)) z → IsNet z
  driven_net z has = inr (Contains-append_right (map Named f.ins) (flat_map driven (filled_lines f tables)) z has)

  input_net : (text : List ℕ) → Contains f.ins text → IsNet (Named text)
  input_net text has = inr (Contains-append_left (map Named f.ins) (flat_map driven (filled_lines f tables)) (Named text) (contains-map Named f.ins text has))

  text_net : (text : List ℕ) → Contains (driven_texts f) text → IsNet (Named text)
  text_net text has =
      inr (subst (λ l. Contains l (Named text)) (sym (nets_are f tables ready))
      (Contains-append_right (map Named f.ins) (cell_nets f ++ map Named (driven_texts f)) (Named text)
      (Contains-append_right (cell_nets f) (map Named (driven_texts f)) (Named text) (contains-map Named (driven_texts f) text has))))

  register_net : (text : List ℕ) → Contains (state_texts f) text → IsNet (Named text)
  register_net text has = text_net text (Contains-append_right (plain_outputs f) (state_texts f) text has)

  output_net : (text : List ℕ) → Contains f.outs text → IsNet (Named text)
  output_net text has = by (either (has_name text (state_texts f)))
    where
      by : (has_name text (state_texts f) ≡ true) ⊎ (has_name text (state_texts f) ≡ false) → IsNet (Named text)
      by (inr plain) = text_net text (Contains-append_left (plain_outputs f) (state_texts f) text (keeps (λ t. not (has_name t (state_texts f))) f.outs text has (ap not plain)))
      by (inl named) = let found = any_there (same_name text) (state_texts f) named in register_net text (subst (Contains (state_texts f)) (sym (same_equal text found.0 found.2)) found.1)

  port_net : (text : List ℕ) → Contains f.ins text ⊎ Contains (state_texts f) text → IsNet (Named text)
  port_net text (inl input) = input_net text input
  port_net text (inr register) = register_net text register

  name_net : (text : List ℕ) → Contains (f.ins ++ state_texts f) text ⊎ Contains f.outs text → IsNet (Named text)
  name_net text (inl port) = port_net text (Contains-append_cases f.ins (state_texts f) text port)
  name_net text (inr output) = output_net text output

  port_word_net : (z : NetWord) → Contains (port_words f) z → IsNet z
  port_word_net z has =
      let text = from_map Named (f.ins ++ state_texts f) z has in
      subst IsNet text.2 (port_net text.0 (Contains-append_cases f.ins (state_texts f) text.0 text.1))

  all_words : HaveClocks f → All (λ line. All IsNet (line_words line)) (filled_lines f tables)
  all_words clocks =
      occur_words IsNet (filled_lines f tables) (port_words f) (λ b. inl (b, refl)) port_word_net driven_net
      (lines_occur f tables ready IsNet clocks (λ text has. name_net text (Contains-append_cases (f.ins ++ state_texts f) f.outs text has)))

pub words_are_nets : WordsAreNets
words_are_nets f tables ready clocks = all_flat_map (λ word. IsNumber word ⊎ Contains (all_nets f tables) word) line_words (filled_lines f tables) (all_words f tables ready clocks)
