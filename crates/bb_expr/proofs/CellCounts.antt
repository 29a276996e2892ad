-- As many cells are made as are counted.
use Rattle.std.proofs.Common.{◌≡◌, ℕ, zero, suc, ◌+◌, ◌-◌, ◌*◌, ◌≤◌, Bool, true, false, List, [], ◌∷◌, ◌++◌, length, map, refl, sym, ap, ap₂, ◌∙◌, subst, arith, length-append}
use Rattle.std.proofs.lemmas.List.{length-map}
use Rattle.std.proofs.lemmas.List.Sums.{sum_by-cons}
use Rattle.std.specs.Prelude.{fold, reverse, sum, sum_by, if◌then◌else◌}
use Rattle.std.proofs.lemmas.List.{length-reverse}
use Rattle.bb_lemmas.proofs.Ranges.{length-range}
use Rattle.bb_ast.specs.declared.expr.Op.{Op}
use Rattle.bb_ast.specs.declared.expr.Op.TheVariants as ops
use Rattle.bb_ast.specs.Syntax.{Expression, Net, Bit, Part, Sized, Plain, Not, Fold, Chain, Words, Cond, Concat, Repeat, Operands, no_operand, operand, WordOperands, no_word, word, Arms, no_arm, arm, Parts, no_part, part}
use Rattle.bb_ast.specs.Folds.{of_operands, of_words, of_arms, of_parts}
use Rattle.bb_ast.specs.declared.operators.WordOp.{WordOp}
use Rattle.bb_bits.specs.Numbers.{bits_of}
use Rattle.bb_names.specs.Ranges.{distance, range_width, place_of}
use Rattle.bb_names.specs.Widths.{Ranges, greatest, own_width, widths, Operand, alone, operator_width, first_at, second_at, word_step}
use Rattle.bb_word.specs.Folds.{fold_circuit, fold_cells}
use Rattle.bb_word.specs.Meanings.{word_width}
use Rattle.bb_word.specs.Words.{HaveOneWidth, word_circuit, word_cells}
use Rattle.bb_word.specs.Laws.CountLaws.{word_count as circuit-cells, fold_count as reduction-cells, word_long, fold_long}
use Rattle.bb_expr.specs.Lists.{copies, bitwise}
use Rattle.bb_expr.specs.Terms.{Term, Const, And, Or, Xor, terms}
use Rattle.bb_expr.specs.Cells.{MadeTerms, made, makes, complement_terms, operated, chained, any_from, any_bit, selected, arm_made, arms_made, part_bits, part_cells, net_terms, word_made, word_count, op_cells, counts, cell_count}
use Rattle.bb_word.specs.Folds.{is_odd}
use Rattle.bb_expr.specs.Laws.{CellsAreCounted}
use Rattle.bb_expr.proofs.ValueLemmas.{length-extended, length-bitwise, length-copies, length-bits_of, sum-step, first-fits, second-fits, result-fits, one-width}
use Rattle.bb_expr.proofs.MadeValue.{made_seen}

-- what an operand of the count is seen as
abbrev pub count_seen : Ranges → Expression → (ℕ → ℕ) → Operand ℕ
count_seen ranges e a = record { width = own_width ranges e; at = a }

pub length-operated : (op : Op) (w : ℕ) (xs ys : List Term) → length xs ≡ w → length ys ≡ w → length (operated op xs ys).bits ≡ w
length-operated ops.And w xs ys a b = length-bitwise And w xs ys a b
length-operated ops.Or w xs ys a b = length-bitwise Or w xs ys a b
length-operated ops.Xor w xs ys a b = length-bitwise Xor w xs ys a b
length-operated ops.Xnor w xs ys a b = length-map (bitwise Xor xs ys) _ ∙ length-bitwise Xor w xs ys a b

pub operated-cells : (op : Op) (w : ℕ) (xs ys : List Term) → length xs ≡ w → length ys ≡ w → length (operated op xs ys).cells ≡ op_cells op * w
operated-cells ops.And w xs ys a b = length-bitwise And w xs ys a b ∙ omega arith
operated-cells ops.Or w xs ys a b = length-bitwise Or w xs ys a b ∙ omega arith
operated-cells ops.Xor w xs ys a b = length-bitwise Xor w xs ys a b ∙ omega arith
operated-cells ops.Xnor w xs ys a b =
    length-append (bitwise Xor xs ys) (complement_terms (bitwise Xor xs ys)) ∙ rw (length-map, length-bitwise Xor w xs ys a b) (omega arith)

pub any-from-cells : (a : Term) (bits : List Term) → length (any_from a bits).1 ≡ length bits
any-from-cells a [] = refl
any-from-cells a (b ∷ bits) = ap suc (any-from-cells (Or a b) bits)

pub any-cells : (w : ℕ) (bits : List Term) → length bits ≡ w → length (any_bit bits).1 ≡ w - 1
any-cells w [] long = omega (arith, long)
any-cells w (b ∷ bits) long = any-from-cells b bits ∙ omega (arith, long)

pub length-selected : (w : ℕ) (c : Term) (ts es : List Term) → length ts ≡ w → length es ≡ w → length (selected c ts es) ≡ w
length-selected w c [] es a b = a
length-selected w c (t ∷ ts) [] a b = grind (arith, a, b)
length-selected zero c (t ∷ ts) (e ∷ es) a b = grind (arith, a, b)
length-selected (suc w) c (t ∷ ts) (e ∷ es) a b = grind (arith, length-selected w c ts es (grind (arith, a)) (grind (arith, b)))

inverted-cells : (o : Bool) (w n : ℕ) (x : MadeTerms) → length x.bits ≡ w → length x.cells ≡ n
    → length (if o then record { bits = complement_terms x.bits; cells = x.cells ++ complement_terms x.bits } else x).cells ≡ n + (if o then w else 0)
inverted-cells true w n x a b = length-append x.cells (complement_terms x.bits) ∙ rw (length-map, a, b) refl
inverted-cells false w n x a b = b ∙ omega arith

arm-cells : (w n k m v : ℕ) (c t e : MadeTerms) → length c.bits ≡ n → length t.bits ≡ w → length e.bits ≡ w → length c.cells ≡ k → length t.cells ≡ m → length e.cells ≡ v
    → length (arm_made c t e).cells ≡ (k + (n - 1) + m + w) + v
arm-cells w n k m v c t e a b d f g h =
    rw (length-append, length-append, length-append, length-append, any-cells n c.bits a, length-selected w _ t.bits e.bits b d, f, g, h) (omega arith)

length-net_terms : (n : List ℕ) (place count : ℕ) → length (net_terms n place count) ≡ count
length-net_terms n place count = rw (length-map, length-range) refl

inverted-long : (o : Bool) (w : ℕ) (x : MadeTerms) → length x.bits ≡ w → length (if o then record { bits = complement_terms x.bits; cells = x.cells ++ complement_terms x.bits } else x).bits ≡ w
inverted-long true w x a = length-map x.bits _ ∙ a
inverted-long false w x a = a

-- an operand that makes as many bits as its context has
abbrev pub IsLong : ℕ → (ℕ → MadeTerms) → Type 0
IsLong l f = (w : ℕ) → l ≤ w → length (f w).bits ≡ w

word-widths : (op : WordOp) (l r w : ℕ) (a b : MadeTerms) → length a.bits ≡ first_at op l r w → length b.bits ≡ second_at op l r w → HaveOneWidth op (length (reverse a.bits)) (length (reverse b.bits))
word-widths op l r w a b first second =
    subst (λ i. HaveOneWidth op i (length (reverse b.bits))) (sym (length-reverse a.bits ∙ first)) (subst (λ i. HaveOneWidth op (first_at op l r w) i) (sym (length-reverse b.bits ∙ second)) (one-width op l r w))

pub word-makes : (op : WordOp) (l r : ℕ) (f h : ℕ → MadeTerms) → IsLong l f → IsLong r h → IsLong (operator_width op l r) (word_step word_made (record { width = l; at = f }) (op, record { width = r; at = h })).at
word-makes op l r f h first second w fits =
    let a = f (first_at op l r w) in
    let b = h (second_at op l r w) in
    let left = first (first_at op l r w) (first-fits op l r w fits) in
    let right = second (second_at op l r w) (second-fits op l r w fits) in
    let c = word_circuit terms op (reverse a.bits) (reverse b.bits) in
    length-extended (Const false) w (reverse c.bits) (word_width op (first_at op l r w))
    (length-reverse c.bits ∙ word_long terms op (reverse a.bits) (reverse b.bits) (word-widths op l r w a b left right) ∙ ap (word_width op) (length-reverse a.bits ∙ left)) (result-fits op l r w fits)

mutual
  -- as many bits are made as the context has
  pub length-made : (ranges : Ranges) (e : Expression) (w : ℕ) → own_width ranges e ≤ w → length (made ranges e w).bits ≡ w
  length-made ranges (Net n) w fits = length-extended (Const false) w (net_terms n 0 (range_width (ranges n))) _ (length-net_terms n 0 (range_width (ranges n))) fits
  length-made ranges (Bit n i) w fits = length-extended (Const false) w (net_terms n (place_of (ranges n) i) 1) _ (length-net_terms n (place_of (ranges n) i) 1) fits
  length-made ranges (Part n i j) w fits =
      length-extended (Const false) w (net_terms n (place_of (ranges n) i) (distance i j + 1)) _ (length-net_terms n (place_of (ranges n) i) (distance i j + 1)) fits
  length-made ranges (Sized bits) w fits = length-extended (Const false) w (map Const bits) _ (length-map bits Const) fits
  length-made ranges (Plain n) w fits = length-extended (Const false) w (map Const (bits_of 32 n)) _ (length-map (bits_of 32 n) Const ∙ length-bits_of 32 n) fits
  length-made ranges (Not k e) w fits = inverted-long (is_odd k) w (made ranges e w) (length-made ranges e w fits)
  length-made ranges (Fold op e) w fits =
      let a = made ranges e (own_width ranges e) in
      let c = fold_circuit terms op (reverse a.bits) in
      length-extended (Const false) w (reverse c.bits) 1 (length-reverse c.bits ∙ fold_long terms op (reverse a.bits)) fits
  length-made ranges (Chain e rest) w fits = chain-long ranges rest w (made ranges e w) (length-made ranges e w (omega (arith, fits))) (omega (arith, fits))
  length-made ranges (Words e rest) w fits =
      words-long ranges rest (own_width ranges e) (made ranges e) (λ v h. length-made ranges e v h) w fits
  length-made ranges (Cond all last) w fits = arms-long ranges all w last (omega (arith, fits)) (length-made ranges last w (omega (arith, fits)))
  length-made ranges (Concat all) w fits = length-extended (Const false) w (part_bits (of_parts (made_seen ranges) (makes ranges) all)) _ (parts-long ranges all) fits
  length-made ranges (Repeat k all) w fits =
      length-extended (Const false) w (copies k (part_bits (of_parts (made_seen ranges) (makes ranges) all))) _ (length-copies k _ ∙ ap (λ n. k * n) (parts-long ranges all)) fits

  chain-long : (ranges : Ranges) (rest : Operands) (w : ℕ) (m : MadeTerms) → length m.bits ≡ w → greatest (map (λ x. x.1) (of_operands (λ x a. a) (widths ranges) rest)) ≤ w
      → length (fold (λ a x. let b = x.1.at w in chained a b (operated x.0 a.bits b.bits)) m (of_operands (made_seen ranges) (makes ranges) rest)).bits ≡ w
  chain-long ranges no_operand w m long fits = long
  chain-long ranges (operand op e rest) w m long fits =
      chain-long ranges rest w (chained m (made ranges e w) (operated op m.bits (made ranges e w).bits))
      (length-operated op w m.bits (made ranges e w).bits long (length-made ranges e w (omega (arith, fits)))) (omega (arith, fits))

  pub words-long : (ranges : Ranges) (rest : WordOperands) (l : ℕ) (f : ℕ → MadeTerms) → IsLong l f
      → IsLong (fold (λ n x. operator_width x.0 n x.1) l (of_words (λ x a. a) (widths ranges) rest)) (fold (word_step word_made) (record { width = l; at = f }) (of_words (made_seen ranges) (makes ranges) rest)).at
  words-long ranges no_word l f long = long
  words-long ranges (word op e rest) l f long =
      words-long ranges rest (operator_width op l (own_width ranges e)) (word_step word_made (record { width = l; at = f }) (op, made_seen ranges e (made ranges e))).at
      (word-makes op l (own_width ranges e) f (made ranges e) long (λ v h. length-made ranges e v h))

  arms-long : (ranges : Ranges) (all : Arms) (w : ℕ) (last : Expression) → greatest (map (λ x. x.1) (of_arms (λ x a. a) (widths ranges) all)) ≤ w → length (made ranges last w).bits ≡ w
      → length (arms_made (of_arms (made_seen ranges) (makes ranges) all) (made_seen ranges last (made ranges last)) w).bits ≡ w
  arms-long ranges no_arm w last fits long = long
  arms-long ranges (arm c e rest) w last fits long =
      length-selected w _ (made ranges e w).bits (arms_made (of_arms (made_seen ranges) (makes ranges) rest) (made_seen ranges last (made ranges last)) w).bits
      (length-made ranges e w (omega (arith, fits))) (arms-long ranges rest w last (omega (arith, fits)) long)

  parts-long : (ranges : Ranges) (all : Parts) → length (part_bits (of_parts (made_seen ranges) (makes ranges) all)) ≡ sum (of_parts (λ x a. a) (widths ranges) all)
  parts-long ranges no_part = refl
  parts-long ranges (part e rest) =
      length-append (made ranges e (own_width ranges e)).bits (part_bits (of_parts (made_seen ranges) (makes ranges) rest))
      ∙ sum-step _ _ _ (of_parts (λ x a. a) (widths ranges) rest) (length-made ranges e (own_width ranges e) (omega arith)) (parts-long ranges rest)

-- what is made, and how much of it is counted, for an operand of some own width
pub record AreCounted (l : ℕ) (f : ℕ → MadeTerms) (k : ℕ → ℕ) : Type 0 where
  pub long : IsLong l f
  pub many : (w : ℕ) → l ≤ w → length (f w).cells ≡ k w

word-counted : (op : WordOp) (l r : ℕ) (f h : ℕ → MadeTerms) (k j : ℕ → ℕ) → AreCounted l f k → AreCounted r h j
    → AreCounted (operator_width op l r) (word_step word_made (record { width = l; at = f }) (op, record { width = r; at = h })).at (word_step word_count (record { width = l; at = k }) (op, record { width = r; at = j })).at
word-counted op l r f h k j first second = record {
  long = word-makes op l r f h first.long second.long;
  many = λ w fits.
      let m = first_at op l r w in
      let n = second_at op l r w in
      let a = f m in
      let b = h n in
      let left = first.long m (first-fits op l r w fits) in
      let right = second.long n (second-fits op l r w fits) in
      let c = word_circuit terms op (reverse a.bits) (reverse b.bits) in
      length-append (a.cells ++ b.cells) c.cells
      ∙ ap₂ (λ x y. x + y) (length-append a.cells b.cells ∙ ap₂ (λ x y. x + y) (first.many m (first-fits op l r w fits)) (second.many n (second-fits op l r w fits)))
      (circuit-cells terms op (reverse a.bits) (reverse b.bits) (word-widths op l r w a b left right) ∙ ap₂ (word_cells op) (length-reverse a.bits ∙ left) (length-reverse b.bits ∙ right));
}

mutual
  pub cells-counted : (ranges : Ranges) (e : Expression) (w : ℕ) → own_width ranges e ≤ w → length (made ranges e w).cells ≡ cell_count ranges e w
  cells-counted ranges (Net n) w fits = refl
  cells-counted ranges (Bit n i) w fits = refl
  cells-counted ranges (Part n i j) w fits = refl
  cells-counted ranges (Sized bits) w fits = refl
  cells-counted ranges (Plain n) w fits = refl
  cells-counted ranges (Not k e) w fits = inverted-cells (is_odd k) w _ (made ranges e w) (length-made ranges e w fits) (cells-counted ranges e w fits)
  cells-counted ranges (Chain e rest) w fits =
      chain-cells ranges rest w (made ranges e w) _ (length-made ranges e w (omega (arith, fits))) (cells-counted ranges e w (omega (arith, fits))) (omega (arith, fits))
  cells-counted ranges (Fold op e) w fits =
      let n = own_width ranges e in
      let a = made ranges e n in
      length-append a.cells (fold_circuit terms op (reverse a.bits)).cells
      ∙ ap₂ (λ x y. x + y) (cells-counted ranges e n (omega arith)) (reduction-cells terms op (reverse a.bits) ∙ ap (fold_cells op) (length-reverse a.bits ∙ length-made ranges e n (omega arith)))
  cells-counted ranges (Words e rest) w fits =
      (words-cells ranges rest (own_width ranges e) (made ranges e) (cell_count ranges e) (record { long = λ v h. length-made ranges e v h; many = λ v h. cells-counted ranges e v h })).many w fits
  cells-counted ranges (Cond all last) w fits = arms-cells ranges all w last (omega (arith, fits)) (omega (arith, fits)) (cells-counted ranges last w (omega (arith, fits)))
  cells-counted ranges (Concat all) w fits = parts-cells ranges all
  cells-counted ranges (Repeat k all) w fits = parts-cells ranges all

  chain-cells : (ranges : Ranges) (rest : Operands) (w : ℕ) (m : MadeTerms) (n : ℕ) → length m.bits ≡ w → length m.cells ≡ n
      → greatest (map (λ x. x.1) (of_operands (λ x a. a) (widths ranges) rest)) ≤ w
      → length (fold (λ a x. let b = x.1.at w in chained a b (operated x.0 a.bits b.bits)) m (of_operands (made_seen ranges) (makes ranges) rest)).cells
      ≡ n + sum_by (λ x. x.1.at w + op_cells x.0 * w) (of_operands (count_seen ranges) counts rest)
  chain-cells ranges no_operand w m n long many fits = many ∙ omega arith
  chain-cells ranges (operand op e rest) w m n long many fits =
      let here : length (made ranges e w).bits ≡ w = length-made ranges e w (omega (arith, fits)) in
      let cells : length (made ranges e w).cells ≡ cell_count ranges e w = cells-counted ranges e w (omega (arith, fits)) in
      let gates : length (operated op m.bits (made ranges e w).bits).cells ≡ op_cells op * w = operated-cells op w m.bits _ long here in
      chain-cells ranges rest w (chained m (made ranges e w) (operated op m.bits (made ranges e w).bits)) (n + (cell_count ranges e w + op_cells op * w))
      (length-operated op w m.bits _ long here) (rw (length-append, length-append, many, cells, gates) (omega arith)) (omega (arith, fits))
      ∙ rw (sum_by-cons) (omega arith)

  words-cells : (ranges : Ranges) (rest : WordOperands) (l : ℕ) (f : ℕ → MadeTerms) (k : ℕ → ℕ) → AreCounted l f k
      → AreCounted (fold (λ n x. operator_width x.0 n x.1) l (of_words (λ x a. a) (widths ranges) rest))
      (fold (word_step word_made) (record { width = l; at = f }) (of_words (made_seen ranges) (makes ranges) rest)).at
      (fold (word_step word_count) (record { width = l; at = k }) (of_words (count_seen ranges) counts rest)).at
  words-cells ranges no_word l f k same = same
  words-cells ranges (word op e rest) l f k same =
      let r = own_width ranges e in
      words-cells ranges rest (operator_width op l r) (word_step word_made (record { width = l; at = f }) (op, made_seen ranges e (made ranges e))).at
      (word_step word_count (record { width = l; at = k }) (op, count_seen ranges e (cell_count ranges e))).at
      (word-counted op l r f (made ranges e) k (cell_count ranges e) same (record { long = λ v h. length-made ranges e v h; many = λ v h. cells-counted ranges e v h }))

  arms-cells : (ranges : Ranges) (all : Arms) (w : ℕ) (last : Expression)
      → greatest (map (λ x. x.1) (of_arms (λ x a. a) (widths ranges) all)) ≤ w → own_width ranges last ≤ w → length (made ranges last w).cells ≡ cell_count ranges last w
      → length (arms_made (of_arms (made_seen ranges) (makes ranges) all) (made_seen ranges last (made ranges last)) w).cells
      ≡ sum_by (λ x. alone x.0 + (x.0.width - 1) + x.1.at w + w) (of_arms (count_seen ranges) counts all) + cell_count ranges last w
  arms-cells ranges no_arm w last fits own same = same ∙ omega arith
  arms-cells ranges (arm c e rest) w last fits own same =
      arm-cells w (own_width ranges c) _ _ _ (made ranges c (own_width ranges c)) (made ranges e w) _
      (length-made ranges c (own_width ranges c) (omega arith)) (length-made ranges e w (omega (arith, fits)))
      (arms-long ranges rest w last (omega (arith, fits)) (length-made ranges last w own))
      (cells-counted ranges c (own_width ranges c) (omega arith)) (cells-counted ranges e w (omega (arith, fits))) (arms-cells ranges rest w last (omega (arith, fits)) own same)
      ∙ rw (sum_by-cons) (omega arith)

  parts-cells : (ranges : Ranges) (all : Parts) → length (part_cells (of_parts (made_seen ranges) (makes ranges) all)) ≡ sum_by alone (of_parts (count_seen ranges) counts all)
  parts-cells ranges no_part = refl
  parts-cells ranges (part e rest) =
      length-append (made ranges e (own_width ranges e)).cells (part_cells (of_parts (made_seen ranges) (makes ranges) rest))
      ∙ ap₂ (λ a b. a + b) (cells-counted ranges e (own_width ranges e) (omega arith)) (parts-cells ranges rest) ∙ sym (sum_by-cons (alone {A = ℕ}) (count_seen ranges e (cell_count ranges e)) (of_parts (count_seen ranges) counts rest))

pub cells_are_counted : CellsAreCounted
cells_are_counted ranges e w fits = cells-counted ranges e w fits
