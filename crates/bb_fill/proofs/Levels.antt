-- The levels of a tree, choice after choice.
use Rattle.std.proofs.Common.{◌≡◌, ◌∙◌, ℕ, zero, suc, ◌+◌, ◌*◌, ◌^◌, ◌/◌, ◌<◌, List, [], ◌∷◌, ◌++◌, length, map, reverse, refl, sym, ap, ap₂, arith}
use Rattle.std.specs.List.{flat_map, range_with_len}
use Rattle.std.proofs.lemmas.Grind.{flat_map-append}
use Rattle.std.proofs.lemmas.List.{flat_map_more, length-map, map-append, reverse-append}
use Rattle.std.proofs.lemmas.List.Folds.{flat_map-map}
use Rattle.std.proofs.lemmas.Simd.{map-map}
use Rattle.bb_bits.specs.Tables.{TableBits, table_bit, column}
use Rattle.bb_lemmas.proofs.Ranges.{length-range}
use Rattle.bb_fill.specs.declared.trees.Values.{Values}
use Rattle.bb_fill.specs.declared.trees.Values.TheVariants.{Rows, Nets}
use Rattle.bb_fill.specs.Words.{NetWord, Bit, CellNet, ChoiceNet}
use Rattle.bb_fill.specs.Lines.{Line, Assign, Gate, Buf, line_text}
use Rattle.bb_fill.specs.Trees.{halved, choice_nets, tree_lines, tree_values}
use Rattle.bb_fill.specs.Inside.Levels.{level_words, value_word}

-- a choice between the values at two neighbouring numbers
abbrev pub choice_of : (ℕ → NetWord) → NetWord → ℕ → ℕ → Line
choice_of value pin first i = Assign (ChoiceNet (first + i)) pin (value (2 * i + 1)) (value (2 * i))

two_more : (f : ℕ → NetWord) (a n : ℕ) → map f (range_with_len (2 * a) (2 * suc n)) ≡ f (2 * a) ∷ f (2 * a + 1) ∷ map f (range_with_len (2 * (a + 1)) (2 * n))
two_more f a n =
    let more : 2 * suc n ≡ suc (suc (2 * n)) = omega arith in
    let next : 2 * a + 1 + 1 ≡ 2 * (a + 1) = omega arith in
    ap (λ m. map f (range_with_len (2 * a) m)) more ∙ ap (λ b. f (2 * a) ∷ f (2 * a + 1) ∷ map f (range_with_len b (2 * n))) next

halved_from : (value : ℕ → NetWord) (pin : NetWord) (first a n : ℕ)
    → halved pin (first + a) (map value (range_with_len (2 * a) (2 * n))) ≡ map (choice_of value pin first) (range_with_len a n)
halved_from value pin first a zero = refl
halved_from value pin first a (suc n) =
    let next : first + a + 1 ≡ first + (a + 1) = omega arith in
    ap (halved pin (first + a)) (two_more value a n)
    ∙ ap (λ k. choice_of value pin first a ∷ halved pin k (map value (range_with_len (2 * (a + 1)) (2 * n)))) next
    ∙ ap (λ l. choice_of value pin first a ∷ l) (halved_from value pin first (a + 1) n)

-- the text of a level is that of its choices in order
pub level_text : (value : ℕ → NetWord) (pin : NetWord) (first n : ℕ) (stem : List ℕ)
    → flat_map (λ i. line_text stem (choice_of value pin first i)) (range_with_len 0 n) ≡ flat_map (line_text stem) (halved pin first (map value (range_with_len 0 (2 * n))))
level_text value pin first n stem =
    let at : first ≡ first + 0 = omega arith in
    sym (ap (flat_map (line_text stem)) (ap (λ k. halved pin k (map value (range_with_len 0 (2 * n)))) at ∙ halved_from value pin first 0 n)
    ∙ flat_map-map (line_text stem) (choice_of value pin first) (range_with_len 0 n))

-- the last pin comes first
pub last_pin : (w : ℕ → NetWord) (pins rest : List ℕ) (last : ℕ) → pins ≡ rest ++ last ∷ [] → reverse (map w pins) ≡ w last ∷ reverse (map w rest)
last_pin w pins rest last is = ap (λ l. reverse (map w l)) is ∙ ap reverse (map-append w rest (last ∷ [])) ∙ reverse-append (map w rest) (w last ∷ [])

-- 2 ^ n values are two halves where there is a pin
pub two_halves : (count n half : ℕ) → count ≡ 2 ^ n → 0 < n → half ≡ count / 2 → count ≡ 2 * half
two_halves count zero half is some at = absurd (omega (arith, some))
two_halves count (suc n) half is some at =
    let twice : 2 ^ suc n ≡ 2 * 2 ^ n = omega arith in
    omega (arith, is, at, twice)

module _ (t : TableBits) (p : ℕ) (values : Values) (w : ℕ → NetWord) (pins rest : List ℕ) (last first count half : ℕ) (is : pins ≡ rest ++ last ∷ []) (even : count ≡ 2 * half) where
  half_long : length (level_words t p values (2 * half)) / 2 ≡ half
  half_long =
      let long = length-map (range_with_len 0 (2 * half)) (value_word t p values) ∙ length-range 0 (2 * half) in
      omega (arith, long)

  lines_split : tree_lines (reverse (map w pins)) first (level_words t p values count)
      ≡ halved (w last) first (level_words t p values (2 * half)) ++ tree_lines (reverse (map w rest)) (first + half) (level_words t p (Nets first) half)
  lines_split =
      ap₂ (λ ps n. tree_lines ps first (level_words t p values n)) (last_pin w pins rest last is) even
      ∙ ap (λ n. halved (w last) first (level_words t p values (2 * half)) ++ tree_lines (reverse (map w rest)) (first + n) (choice_nets first n)) half_long

  -- the first level and the others are the tree
  pub tree_text : (stem : List ℕ)
      → flat_map (line_text stem) (halved (w last) first (level_words t p values (2 * half))) ++ flat_map (line_text stem) (tree_lines (reverse (map w rest)) (first + half) (level_words t p (Nets first) half))
      ≡ flat_map (line_text stem) (tree_lines (reverse (map w pins)) first (level_words t p values count))
  tree_text stem =
      sym (flat_map-append (line_text stem) (halved (w last) first (level_words t p values (2 * half))) (tree_lines (reverse (map w rest)) (first + half) (level_words t p (Nets first) half)))
      ∙ ap (flat_map (line_text stem)) (sym lines_split)

  -- and what the others leave is left of it
  pub left_of_tree : tree_values (reverse (map w pins)) first (level_words t p values count) ≡ tree_values (reverse (map w rest)) (first + half) (level_words t p (Nets first) half)
  left_of_tree =
      ap₂ (λ ps n. tree_values ps first (level_words t p values n)) (last_pin w pins rest last is) even
      ∙ ap (λ n. tree_values (reverse (map w rest)) (first + n) (choice_nets first n)) half_long

-- the bits of the rows are the first level
pub row_bits : (t : TableBits) (p n : ℕ) → t.inputs ≡ n → level_words t p Rows (2 ^ n) ≡ map Bit (column t p)
row_bits t p n is = ap (λ m. level_words t p Rows (2 ^ m)) (sym is) ∙ sym (map-map Bit (λ row. table_bit t row p) (range_with_len 0 (2 ^ t.inputs)))

-- a tree and the copy of its value
pub rooted : (stem : List ℕ) (pins : List NetWord) (first number : ℕ) (bits words left : List NetWord) → words ≡ bits → tree_values pins first words ≡ left
    → flat_map (line_text stem) (tree_lines pins first words) ++ line_text stem (Gate Buf (CellNet number) left)
    ≡ flat_map (line_text stem) (tree_lines pins first bits ++ Gate Buf (CellNet number) (tree_values pins first bits) ∷ [])
rooted stem pins first number bits words left is at =
    ap (λ l. flat_map (line_text stem) (tree_lines pins first words) ++ line_text stem (Gate Buf (CellNet number) l)) (sym at)
    ∙ ap (λ l. flat_map (line_text stem) (tree_lines pins first l) ++ line_text stem (Gate Buf (CellNet number) (tree_values pins first l))) is
    ∙ flat_map_more (line_text stem) [] (tree_lines pins first bits) (Gate Buf (CellNet number) (tree_values pins first bits))
