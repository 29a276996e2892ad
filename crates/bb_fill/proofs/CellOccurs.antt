-- The lines of a cell read the words of cells that precede it.
use Rattle.std.proofs.Common.{◌≡◌, ◌∙◌, ◌⊎◌, inl, inr, ℕ, ◌+◌, ◌^◌, ◌<◌, ◌≤◌, false, List, [], ◌∷◌, ◌++◌, append-nil, append_assoc, length, length-append, map, refl, sym, ap, subst, arith}
use Rattle.std.specs.Prelude.{All, Contains}
use Rattle.std.specs.List.{flat_map, range_with_len, slice_index_or}
use Rattle.std.proofs.lemmas.Grind.{flat_map-append}
use Rattle.std.proofs.lemmas.List.{length-map}
use Rattle.std.proofs.lemmas.List.Elements.{All-cons, All-map, All-nil, All-weaker, Contains-append_left, Contains-append_right, Contains-get_or, Contains-push}
use Rattle.bb_bits.specs.Tables.{TableBits, column}
use Rattle.bb_lemmas.proofs.Members.{contains-map, into_flat}
use Rattle.bb_lemmas.proofs.Orders.{less_or_not}
use Rattle.bb_lemmas.proofs.Ranges.{range_there, range_last_from_zero}
use Rattle.bb_net.specs.declared.cell.Cell.{Cell}
use Rattle.bb_net.specs.declared.cell.Cell.TheVariants as cells
use Rattle.bb_net.specs.CutPoints.{state_texts}
use Rattle.bb_net.specs.Flats.{FlatNet}
use Rattle.bb_net.specs.Netlists.{ReadsBefore, box_at, cell_at}
use Rattle.bb_net.specs.Values.{table_at}
use Rattle.bb_fill.specs.Words.{NetWord, Bit, Named, CellNet, cell_word, word_at}
use Rattle.bb_fill.specs.Trees.{choice_nets}
use Rattle.bb_fill.specs.Filled.{cell_lines, choice_count, first_choice, lines_of_cells, output_pin_words, pin_words}
use Rattle.bb_fill.specs.Laws.{IsReady, driven}
use Rattle.bb_fill.proofs.Driven.{cell-driven, nets_of}
use Rattle.bb_fill.proofs.LineBits.{word_past}
use Rattle.bb_fill.proofs.Lists.{all_reverse, all_three, all_two}
use Rattle.bb_fill.proofs.MetCells.{pin_copy, pin_tree, tables_fit}
use Rattle.bb_fill.proofs.SizeLemmas.{column-length, pins-length}
use Rattle.bb_fill.proofs.Occurs.{IsKnown, Occur, occur_append, occur_numbers}
use Rattle.bb_fill.proofs.TreeOccurs.{tree_occurs}

-- the words of inputs and registers
abbrev pub port_words : FlatNet → List NetWord
port_words f = map Named (f.ins ++ state_texts f)

-- these, and the nets of the cells before a number
abbrev pub nets_before : FlatNet → ℕ → List NetWord
nets_before f k = port_words f ++ flat_map (λ j. nets_of f j (cell_at f.net.cells j)) (range_with_len 0 k)

module _ (f : FlatNet) (tables : List TableBits) (ready : IsReady f tables) where
  -- the word of a cell before a number is known
  word_before : (k a : ℕ) → a < k → a < length f.net.cells → IsKnown (nets_before f k) (word_at f a)
  word_before k a less within = each (cell_at f.net.cells a) (ready.flat.net.ordered a within) among
    where
      nets_at : ℕ → List NetWord
      nets_at j = nets_of f j (cell_at f.net.cells j)

      among : (z : NetWord) → Contains (nets_at a) z → IsKnown (nets_before f k) z
      among z has =
          let there = range_there 0 k a (omega arith) (omega (arith, less)) in
          inr (Contains-append_right (port_words f) (flat_map nets_at (range_with_len 0 k)) z (into_flat nets_at (range_with_len 0 k) a z there has))

      each : (c : Cell) → ReadsBefore f.net.inputs f.net.boxes a c → ((z : NetWord) → Contains (nets_of f a c) z → IsKnown (nets_before f k) z) → IsKnown (nets_before f k) (cell_word f a c)
      each (cells.Const b) reads own = inl (b, refl)
      each (cells.Input i) reads own =
          let named = f.ins ++ state_texts f in
          let there = Contains-get_or named i [] (omega (arith, reads, ready.flat.named.inputs, length-append f.ins (state_texts f), length-map f.regs (λ q. q.text))) in
          let name = slice_index_or named i [] in
          inr (Contains-append_left (port_words f) (flat_map nets_at (range_with_len 0 k)) (Named name) (contains-map Named named name there))
      each (cells.Not b) reads own = own (CellNet a) (Contains-push (choice_nets (first_choice f a) 0) (CellNet a))
      each (cells.And b c) reads own = own (CellNet a) (Contains-push (choice_nets (first_choice f a) 0) (CellNet a))
      each (cells.Or b c) reads own = own (CellNet a) (Contains-push (choice_nets (first_choice f a) 0) (CellNet a))
      each (cells.Xor b c) reads own = own (CellNet a) (Contains-push (choice_nets (first_choice f a) 0) (CellNet a))
      each (cells.Mux b c d) reads own = own (CellNet a) (Contains-push (choice_nets (first_choice f a) 0) (CellNet a))
      each (cells.BoxOut b p) reads own = own (CellNet a) (Contains-push (choice_nets (first_choice f a) (choice_count f.net.boxes (cells.BoxOut b p))) (CellNet a))

  -- after all cells the word at any place is known
  pub word_known : (k : ℕ) → IsKnown (nets_before f (length f.net.cells)) (word_at f k)
  word_known k = by (less_or_not k (length f.net.cells))
    where
      by : (k < length f.net.cells) ⊎ (length f.net.cells ≤ k) → IsKnown (nets_before f (length f.net.cells)) (word_at f k)
      by (inl within) = word_before (length f.net.cells) k within within
      by (inr past) = inl (false, word_past f k past)

  module _ (P : NetWord → Type 0) where
    cell_occurs : (nets : List NetWord) (k : ℕ) → ((a : ℕ) → a < k → IsKnown nets (word_at f a)) → (c : Cell) → ReadsBefore f.net.inputs f.net.boxes k c → Occur P nets (cell_lines f tables k c)
    cell_occurs nets k known (cells.Const b) reads = tt
    cell_occurs nets k known (cells.Input i) reads = tt
    cell_occurs nets k known (cells.Not a) reads = ((All-nil P, All-cons (IsKnown nets) (word_at f a) [] (known a reads) (All-nil (IsKnown nets))), tt)
    cell_occurs nets k known (cells.And a b) reads = ((All-nil P, all_two (IsKnown nets) (word_at f a) (word_at f b) (known a reads.0) (known b reads.1)), tt)
    cell_occurs nets k known (cells.Or a b) reads = ((All-nil P, all_two (IsKnown nets) (word_at f a) (word_at f b) (known a reads.0) (known b reads.1)), tt)
    cell_occurs nets k known (cells.Xor a b) reads = ((All-nil P, all_two (IsKnown nets) (word_at f a) (word_at f b) (known a reads.0) (known b reads.1)), tt)
    cell_occurs nets k known (cells.Mux c t e) reads = ((All-nil P, all_three (IsKnown nets) (word_at f c) (word_at f t) (word_at f e) (known c reads.0) (known t reads.1) (known e reads.2)), tt)
    cell_occurs nets k known (cells.BoxOut b p) reads =
        let ins = (box_at f.net.boxes b).ins in
        let pins = All-map (IsKnown nets) (word_at f) ins (All-weaker (λ pin. pin < k) (λ pin. IsKnown nets (word_at f pin)) known ins reads) in
        let bits : All (IsKnown nets) (output_pin_words tables b p) = All-map (IsKnown nets) Bit (column (table_at tables b) p) (λ i d within. inl (slice_index_or (column (table_at tables b) p) i d, refl)) in
        let long = column-length (table_at tables b) p ∙ ap (λ n. 2 ^ n) (tables_fit tables f.net.boxes ready.fit b ∙ sym (pins-length f b)) in
        let tree = tree_occurs P (pin_words f b) (first_choice f k) (output_pin_words tables b p) nets long (all_reverse (IsKnown nets) (map (word_at f) ins) pins) bits in
        occur_append P (pin_tree f tables k b p) (pin_copy f tables k b p ∷ []) nets tree.0 ((All-nil P, tree.1), tt)

    pub cells_occur : Occur P (port_words f) (lines_of_cells f tables)
    cells_occur =
        subst (λ l. Occur P l (lines_of_cells f tables)) (append-nil (port_words f))
        (occur_numbers P (λ k. cell_lines f tables k (cell_at f.net.cells k)) (nets_before f) 0 (length f.net.cells)
        (λ k lt. cell_occurs (nets_before f k) k (λ a less. word_before k a less (omega (arith, less, lt))) (cell_at f.net.cells k) (ready.flat.net.ordered k (omega (arith, lt)))) next)
      where
        nets_at : ℕ → List NetWord
        nets_at j = nets_of f j (cell_at f.net.cells j)

        next : (k : ℕ) → nets_before f (k + 1) ≡ nets_before f k ++ flat_map driven (cell_lines f tables k (cell_at f.net.cells k))
        next k =
            ap (λ l. port_words f ++ l) (ap (flat_map nets_at) (range_last_from_zero k) ∙ flat_map-append nets_at (range_with_len 0 k) (k ∷ []) ∙ ap (λ l. flat_map nets_at (range_with_len 0 k) ++ l)
            (append-nil (nets_at k) ∙ sym (cell-driven f tables (tables_fit tables f.net.boxes ready.fit) k (cell_at f.net.cells k))))
            ∙ sym (append_assoc (port_words f) (flat_map nets_at (range_with_len 0 k)) (flat_map driven (cell_lines f tables k (cell_at f.net.cells k))))
