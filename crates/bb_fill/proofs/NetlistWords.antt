-- Where the text is not too large, its words are those of the netlist: numbers of cells and of choices have 64 bits.
use Rattle.std.proofs.Common.{◌≡◌, ◌∙◌, ◌⊎◌, inl, inr, ℕ, ◌+◌, ◌<◌, ◌≤◌, Bool, false, List, ◌++◌, length, map, refl, sym, ap, subst, arith}
use Rattle.std.specs.Prelude.{All, Contains, sum_by}
use Rattle.std.specs.List.{flat_map, range_with_len}
use Rattle.std.proofs.lemmas.List.Concat.{length-flat_map}
use Rattle.std.proofs.lemmas.List.Elements.{All-weaker, Contains-append_cases, Contains-append_left, Contains-append_right}
use Rattle.std.proofs.lemmas.List.Folds.{fold-map}
use Rattle.std.proofs.lemmas.List.FromFn.{fill_by_all}
use Rattle.std.proofs.lemmas.List.Sums.{sum_by-le-sum_by}
use Rattle.bb_bits.specs.Tables.{TableBits}
use Rattle.bb_lemmas.proofs.Members.{from_flat, from_map}
use Rattle.bb_lemmas.proofs.Ranges.{from_range}
use Rattle.bb_net.specs.declared.cell.Cell.{Cell}
use Rattle.bb_net.specs.declared.cell.Cell.TheVariants as cells
use Rattle.bb_net.specs.CutPoints.{state_texts}
use Rattle.bb_net.specs.Flats.{FlatNet, HaveClocks}
use Rattle.bb_net.specs.Netlists.{cell_at}
use Rattle.bb_fill.specs.Words.{NetWord, Bit, Named, CellNet, ChoiceNet, texts_of}
use Rattle.bb_fill.specs.Filled.{cell_lines, choice_count, filled_lines, lines_of_cells}
use Rattle.bb_fill.specs.Laws.{IsNumber, IsReady, IsWordOf, WordsAreNets, WordsAreOfNetlist, all_nets, line_words}
use Rattle.bb_fill.specs.Sizes.{most_filled_cells, most_nets, net_count, plain_outputs}
use Rattle.bb_fill.proofs.Choices.{choices_within}
use Rattle.bb_fill.proofs.Driven.{IsNetOf, cell_nets, driven_texts, from_nets, nets_of}
use Rattle.bb_fill.proofs.DrivenOnce.{nets_are, plain_is}
use Rattle.bb_fill.proofs.MetCells.{TablesFit, tables_fit}
use Rattle.bb_fill.proofs.SizeLemmas.{pin-length, pin_choices}

-- no more choices stand for the cells than there are lines

module _ (f : FlatNet) (tables : List TableBits) (fits : TablesFit tables f.net.boxes) where
  cell_choices_few : (k : ℕ) (c : Cell) → choice_count f.net.boxes c ≤ length (cell_lines f tables k c)
  cell_choices_few k (cells.Const b) = omega arith
  cell_choices_few k (cells.Input i) = omega arith
  cell_choices_few k (cells.Not a) = omega arith
  cell_choices_few k (cells.And a b) = omega arith
  cell_choices_few k (cells.Or a b) = omega arith
  cell_choices_few k (cells.Xor a b) = omega arith
  cell_choices_few k (cells.Mux c t e) = omega arith
  cell_choices_few k (cells.BoxOut b p) = omega (arith, pin-length f tables k b p (fits b), pin_choices f tables k b p (fits b))

  choices_few : sum_by (choice_count f.net.boxes) f.net.cells ≤ length (lines_of_cells f tables)
  choices_few =
      let numbers = range_with_len 0 (length f.net.cells) in
      let each = sum_by-le-sum_by (λ k. choice_count f.net.boxes (cell_at f.net.cells k)) (λ k. length (cell_lines f tables k (cell_at f.net.cells k))) numbers (λ k. cell_choices_few k (cell_at f.net.cells k)) in
      let all : sum_by (choice_count f.net.boxes) f.net.cells ≡ sum_by (λ k. choice_count f.net.boxes (cell_at f.net.cells k)) numbers =
      ap (sum_by (choice_count f.net.boxes)) (fill_by_all (cell_at f.net.cells) f.net.cells (length f.net.cells) (cells.Const false) refl (λ k within. refl))
      ∙ fold-map (λ a c. a + choice_count f.net.boxes c) (cell_at f.net.cells) 0 numbers
      in
      omega (arith, each, all, length-flat_map (λ k. cell_lines f tables k (cell_at f.net.cells k)) numbers)

-- where there are not too many nets, what holds of numbers of one bit, of names, and of the nets of so many cells and choices holds of each word
module _ (f : FlatNet) (tables : List TableBits) (ready : IsReady f tables) (few : net_count f tables ≤ most_nets) (P : NetWord → Type 0)
    (bits : (b : Bool) → P (Bit b)) (names : (text : List ℕ) → Contains (texts_of f) text → P (Named text)) (cell : (k : ℕ) → k < most_filled_cells → P (CellNet k)) (choice : (m : ℕ) → m < most_nets → P (ChoiceNet m)) where
  net_of_netlist : (k : ℕ) → k < length f.net.cells → (word : NetWord) → IsNetOf f k (cell_at f.net.cells k) word → P word
  net_of_netlist k within word (inl is) = subst P (sym is) (cell k (omega (arith, within, ready.flat.small.cells)))
  net_of_netlist k within word (inr (m, is, from, below)) =
      subst P (sym is) (choice m (omega (arith, below, choices_within f k within, choices_few f tables (tables_fit tables f.net.boxes ready.fit), few)))

  named_of_netlist : (texts : List (List ℕ)) → ((text : List ℕ) → Contains texts text → Contains (texts_of f) text) → (word : NetWord) → Contains (map Named texts) word → P word
  named_of_netlist texts there word has = let at = from_map Named texts word has in subst P at.2 (names at.0 (there at.0 at.1))

  -- an output or a register
  driven_there : (text : List ℕ) → Contains (plain_outputs f) text ⊎ Contains (state_texts f) text → Contains (texts_of f) text
  driven_there text (inl plain) = Contains-append_right (f.ins ++ state_texts f) f.outs text (plain_is f text plain).0
  driven_there text (inr register) = Contains-append_left (f.ins ++ state_texts f) f.outs text (Contains-append_right f.ins (state_texts f) text register)

  after_of_netlist : (word : NetWord) → Contains (cell_nets f) word ⊎ Contains (map Named (driven_texts f)) word → P word
  after_of_netlist word (inl net) =
      let at = from_flat (λ k. nets_of f k (cell_at f.net.cells k)) (range_with_len 0 (length f.net.cells)) word net in
      net_of_netlist at.0 (omega (arith, (from_range 0 (length f.net.cells) at.0 at.1).1)) word (from_nets f at.0 (cell_at f.net.cells at.0) word at.2)
  after_of_netlist word (inr named) = named_of_netlist (driven_texts f) (λ text has. driven_there text (Contains-append_cases (plain_outputs f) (state_texts f) text has)) word named

  part_of_netlist : (word : NetWord) → Contains (map Named f.ins) word ⊎ Contains (cell_nets f ++ map Named (driven_texts f)) word → P word
  part_of_netlist word (inl input) =
      named_of_netlist f.ins (λ text has. Contains-append_left (f.ins ++ state_texts f) f.outs text (Contains-append_left f.ins (state_texts f) text has)) word input
  part_of_netlist word (inr after) = after_of_netlist word (Contains-append_cases (cell_nets f) (map Named (driven_texts f)) word after)

  word_of_netlist : (word : NetWord) → IsNumber word ⊎ Contains (all_nets f tables) word → P word
  word_of_netlist word (inl number) = subst P (sym number.1) (bits number.0)
  word_of_netlist word (inr net) =
      part_of_netlist word (Contains-append_cases (map Named f.ins) (cell_nets f ++ map Named (driven_texts f)) word (subst (λ l. Contains l word) (nets_are f tables ready) net))

  pub words_hold : WordsAreNets → HaveClocks f → All P (flat_map line_words (filled_lines f tables))
  words_hold nets clocks = All-weaker (λ word. IsNumber word ⊎ Contains (all_nets f tables) word) P word_of_netlist (flat_map line_words (filled_lines f tables)) (nets f tables ready clocks)

pub words_are_of_netlist : WordsAreNets → WordsAreOfNetlist
words_are_of_netlist nets f tables ready clocks small =
    words_hold f tables ready small.nets (IsWordOf f) (λ b. tt) (λ text has. has) (λ k few. omega (arith, few)) (λ m few. omega (arith, few)) nets clocks
