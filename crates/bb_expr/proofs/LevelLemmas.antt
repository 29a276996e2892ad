-- Operators on words of one level: how wide their operands are taken, and how many cells they make.
use Rattle.std.proofs.Common.{◌≡◌, ℕ, zero, suc, ◌+◌, ◌*◌, ◌<◌, ◌≤◌, List, [], ◌∷◌, map, drop, get_or, length, refl, sym, ap, ◌∙◌, subst, arith, inl, inr}
use Rattle.std.specs.List.{AllByRecursion}
use Rattle.std.specs.Prelude.{fold}
use Rattle.bb_ast.specs.declared.operators.WordOp.{WordOp}
use Rattle.bb_ast.specs.declared.operators.WordOp.TheVariants as ops
use Rattle.bb_ast.specs.Syntax.{Expression, Words, word_operands}
use Rattle.bb_ast.specs.Folds.{of_words}
use Rattle.bb_ast.specs.Levels.{level_of, AreOfLevel, IsOneLevel}
use Rattle.bb_names.specs.Widths.{Ranges, own_width, widths, operator_width, first_at, second_at, word_step}
use Rattle.bb_word.specs.Meanings.{word_width}
use Rattle.bb_word.specs.Words.{word_cells, HaveOneWidth}
use Rattle.bb_expr.specs.Cells.{MadeTerms, made, makes, word_made, word_count, counts, cell_count}
use Rattle.bb_expr.specs.Inside.Levels.{width_on, taken, words_cells, words_on}
use Rattle.bb_expr.proofs.ValueLemmas.{first-fits}
use Rattle.bb_expr.proofs.MadeValue.{made_seen}
use Rattle.bb_expr.proofs.CellCounts.{count_seen}
use Rattle.bb_expr.proofs.StepLemmas.{either-side}
use Rattle.bb_expr.proofs.Loops.{rest-here}

-- both operands have a bit, where what they are taken from has
pub first-some : (op : WordOp) (l r w : ℕ) → 1 ≤ l → 1 ≤ r → 1 ≤ w → 1 ≤ first_at op l r w
first-some ops.Plus l r w a b c = c
first-some ops.Minus l r w a b c = c
first-some ops.Equal l r w a b c = omega (arith, a)
first-some ops.NotEqual l r w a b c = omega (arith, a)
first-some ops.Less l r w a b c = omega (arith, a)
first-some ops.LessEqual l r w a b c = omega (arith, a)
first-some ops.Greater l r w a b c = omega (arith, a)
first-some ops.GreaterEqual l r w a b c = omega (arith, a)
first-some ops.Left l r w a b c = c
first-some ops.Right l r w a b c = c
first-some ops.Both l r w a b c = a
first-some ops.Either l r w a b c = a

pub second-some : (op : WordOp) (l r w : ℕ) → 1 ≤ l → 1 ≤ r → 1 ≤ w → 1 ≤ second_at op l r w
second-some ops.Plus l r w a b c = c
second-some ops.Minus l r w a b c = c
second-some ops.Equal l r w a b c = omega (arith, a)
second-some ops.NotEqual l r w a b c = omega (arith, a)
second-some ops.Less l r w a b c = omega (arith, a)
second-some ops.LessEqual l r w a b c = omega (arith, a)
second-some ops.Greater l r w a b c = omega (arith, a)
second-some ops.GreaterEqual l r w a b c = omega (arith, a)
second-some ops.Left l r w a b c = b
second-some ops.Right l r w a b c = b
second-some ops.Both l r w a b c = b
second-some ops.Either l r w a b c = b

-- and are no wider than a bound
pub first-most : (op : WordOp) (l r w n : ℕ) → l ≤ n → r ≤ n → w ≤ n → first_at op l r w ≤ n
first-most ops.Plus l r w n a b c = c
first-most ops.Minus l r w n a b c = c
first-most ops.Equal l r w n a b c = omega (arith, a, b)
first-most ops.NotEqual l r w n a b c = omega (arith, a, b)
first-most ops.Less l r w n a b c = omega (arith, a, b)
first-most ops.LessEqual l r w n a b c = omega (arith, a, b)
first-most ops.Greater l r w n a b c = omega (arith, a, b)
first-most ops.GreaterEqual l r w n a b c = omega (arith, a, b)
first-most ops.Left l r w n a b c = c
first-most ops.Right l r w n a b c = c
first-most ops.Both l r w n a b c = a
first-most ops.Either l r w n a b c = a

pub second-most : (op : WordOp) (l r w n : ℕ) → l ≤ n → r ≤ n → w ≤ n → second_at op l r w ≤ n
second-most ops.Plus l r w n a b c = c
second-most ops.Minus l r w n a b c = c
second-most ops.Equal l r w n a b c = omega (arith, a, b)
second-most ops.NotEqual l r w n a b c = omega (arith, a, b)
second-most ops.Less l r w n a b c = omega (arith, a, b)
second-most ops.LessEqual l r w n a b c = omega (arith, a, b)
second-most ops.Greater l r w n a b c = omega (arith, a, b)
second-most ops.GreaterEqual l r w n a b c = omega (arith, a, b)
second-most ops.Left l r w n a b c = b
second-most ops.Right l r w n a b c = b
second-most ops.Both l r w n a b c = b
second-most ops.Either l r w n a b c = b

pub operator-most : (op : WordOp) (l r n : ℕ) → l ≤ n → r ≤ n → 1 ≤ n → operator_width op l r ≤ n
operator-most ops.Plus l r n a b c = omega (arith, a, b)
operator-most ops.Minus l r n a b c = omega (arith, a, b)
operator-most ops.Equal l r n a b c = c
operator-most ops.NotEqual l r n a b c = c
operator-most ops.Less l r n a b c = c
operator-most ops.LessEqual l r n a b c = c
operator-most ops.Greater l r n a b c = c
operator-most ops.GreaterEqual l r n a b c = c
operator-most ops.Left l r n a b c = a
operator-most ops.Right l r n a b c = a
operator-most ops.Both l r n a b c = c
operator-most ops.Either l r n a b c = c

pub word-some : (op : WordOp) (l : ℕ) → 1 ≤ l → 1 ≤ word_width op l
word-some ops.Plus l a = a
word-some ops.Minus l a = a
word-some ops.Equal l a = omega arith
word-some ops.NotEqual l a = omega arith
word-some ops.Less l a = omega arith
word-some ops.LessEqual l a = omega arith
word-some ops.Greater l a = omega arith
word-some ops.GreaterEqual l a = omega arith
word-some ops.Left l a = a
word-some ops.Right l a = a
word-some ops.Both l a = omega arith
word-some ops.Either l a = omega arith

product-right : (r l : ℕ) → 1 ≤ l → r ≤ r * l
product-right r zero some = absurd (omega (arith, some))
product-right r (suc l) some = grind arith

product-left : (r l : ℕ) → 1 ≤ r → l ≤ r * l
product-left zero l some = absurd (omega (arith, some))
product-left (suc r) l some = grind arith

-- two cells suffice for each bit of the operands
pub cells-hold : (op : WordOp) (l r : ℕ) → 1 ≤ l → 1 ≤ r → HaveOneWidth op l r → l + r ≤ 2 * word_cells op l r
cells-hold ops.Plus l r a b same = omega (arith, a, same)
cells-hold ops.Minus l r a b same = omega (arith, a, same)
cells-hold ops.Equal l r a b same = omega (arith, a, same)
cells-hold ops.NotEqual l r a b same = omega (arith, a, same)
cells-hold ops.Less l r a b same = omega (arith, a, same)
cells-hold ops.LessEqual l r a b same = omega (arith, a, same)
cells-hold ops.Greater l r a b same = omega (arith, a, same)
cells-hold ops.GreaterEqual l r a b same = omega (arith, a, same)
cells-hold ops.Left l r a b same = omega (arith, product-right r l a, product-left r l b)
cells-hold ops.Right l r a b same = omega (arith, product-right r l a, product-left r l b)
cells-hold ops.Both l r a b same = omega (arith, a, b)
cells-hold ops.Either l r a b same = omega (arith, a, b)

-- sums and shifts take their left operand at the width of the context
low-first : (op : WordOp) (l r w : ℕ) → level_of op < 2 → first_at op l r w ≡ w
low-first ops.Plus l r w low = refl
low-first ops.Minus l r w low = refl
low-first ops.Equal l r w low = absurd (omega (arith, low))
low-first ops.NotEqual l r w low = absurd (omega (arith, low))
low-first ops.Less l r w low = absurd (omega (arith, low))
low-first ops.LessEqual l r w low = absurd (omega (arith, low))
low-first ops.Greater l r w low = absurd (omega (arith, low))
low-first ops.GreaterEqual l r w low = absurd (omega (arith, low))
low-first ops.Left l r w low = refl
low-first ops.Right l r w low = refl
low-first ops.Both l r w low = absurd (omega (arith, low))
low-first ops.Either l r w low = absurd (omega (arith, low))

-- the others do not look at it
high-first : (op : WordOp) (l r w v i : ℕ) → level_of op ≡ 2 + i → first_at op l r w ≡ first_at op l r v
high-first ops.Plus l r w v i high = absurd (omega (arith, high))
high-first ops.Minus l r w v i high = absurd (omega (arith, high))
high-first ops.Equal l r w v i high = refl
high-first ops.NotEqual l r w v i high = refl
high-first ops.Less l r w v i high = refl
high-first ops.LessEqual l r w v i high = refl
high-first ops.Greater l r w v i high = refl
high-first ops.GreaterEqual l r w v i high = refl
high-first ops.Left l r w v i high = absurd (omega (arith, high))
high-first ops.Right l r w v i high = absurd (omega (arith, high))
high-first ops.Both l r w v i high = refl
high-first ops.Either l r w v i high = refl

pub level-tail : (x : WordOp × Expression) (xs : List (WordOp × Expression)) → IsOneLevel (word_operands (x ∷ xs)) → IsOneLevel (word_operands xs)
level-tail x [] h = tt
level-tail x (y ∷ xs) h = subst (λ level. AreOfLevel level (word_operands xs)) (sym h.0) h.1

pub level-drop : {X : Type 0} (f : X → WordOp × Expression) (xs : List X) (i : ℕ) → IsOneLevel (word_operands (map f xs)) → IsOneLevel (word_operands (map f (drop i xs)))
level-drop f xs zero h = h
level-drop f [] (suc i) h = h
level-drop f (x ∷ xs) (suc i) h = level-drop f xs i (level-tail (f x) (map f xs) h)

module _ (ranges : Ranges) where
  low-taken : (xs : List (WordOp × Expression)) (level : ℕ) → level < 2 → AreOfLevel level (word_operands xs) → (l w : ℕ) → taken ranges l xs w ≡ w
  low-taken [] level low h l w = refl
  low-taken (x ∷ xs) level low h l w =
      low-first x.0 l (own_width ranges x.1) (taken ranges (operator_width x.0 l (own_width ranges x.1)) xs w) (omega (arith, low, h.0)) ∙ low-taken xs level low h.1 (operator_width x.0 l (own_width ranges x.1)) w

  -- a look at the next operator says how wide the left part is taken
  pub next-taken : (x : WordOp × Expression) (xs : List (WordOp × Expression)) (l w : ℕ) → IsOneLevel (word_operands (x ∷ xs)) → taken ranges l (x ∷ xs) w ≡ first_at x.0 l (own_width ranges x.1) w
  next-taken x xs l w h =
      let r = own_width ranges x.1 in
      let t = taken ranges (operator_width x.0 l r) xs w in
      elim (either-side (level_of x.0) 2) [
        | inl low ↦ low-first x.0 l r t low ∙ low-taken xs (level_of x.0) low h (operator_width x.0 l r) w ∙ sym (low-first x.0 l r w low)
        | inr high ↦ high-first x.0 l r t w high.0 high.1
      ]

  pub taken-here : {X : Type 0} (f : X → WordOp × Expression) (xs : List X) (i : ℕ) (x : X) (l w : ℕ) → i < length xs → x ≡ get_or xs i x → IsOneLevel (word_operands (map f xs))
      → taken ranges l (map f (drop i xs)) w ≡ first_at (f x).0 l (own_width ranges (f x).1) w
  taken-here f xs i x l w within at h =
      let here : map f (drop i xs) ≡ f x ∷ map f (drop (i + 1) xs) = rest-here (λ ys. ys) f xs i x within at in
      ap (λ ys. taken ranges l ys w) here ∙ next-taken (f x) (map f (drop (i + 1) xs)) l w (subst (λ ys. IsOneLevel (word_operands ys)) here (level-drop f xs i h))

  -- it is taken at its own width at least
  pub left-fits : (l : ℕ) (xs : List (WordOp × Expression)) (w : ℕ) → width_on ranges l xs ≤ w → l ≤ taken ranges l xs w
  left-fits l [] w h = h
  left-fits l (x ∷ xs) w h =
      let r = own_width ranges x.1 in
      first-fits x.0 l r (taken ranges (operator_width x.0 l r) xs w) (left-fits (operator_width x.0 l r) xs w h)

  pub taken-most : (n l : ℕ) (xs : List (WordOp × Expression)) (w : ℕ) → AllByRecursion (λ x. own_width ranges x.1 ≤ n) xs → 1 ≤ n → l ≤ n → w ≤ n → taken ranges l xs w ≤ n
  taken-most n l [] w all some a b = b
  taken-most n l (x ∷ xs) w all some a b =
      let r = own_width ranges x.1 in
      first-most x.0 l r (taken ranges (operator_width x.0 l r) xs w) n a all.0 (taken-most n (operator_width x.0 l r) xs w all.1 some (operator-most x.0 l r n a all.0 some) b)

  words-folded : (xs : List (WordOp × Expression)) (l : ℕ) (f : ℕ → MadeTerms) (w : ℕ)
      → (fold (word_step word_made) (record { width = l; at = f }) (of_words (made_seen ranges) (makes ranges) (word_operands xs))).at w ≡ words_on ranges (f (taken ranges l xs w)) l xs w
  words-folded [] l f w = refl
  words-folded (x ∷ xs) l f w =
      words-folded xs (operator_width x.0 l (own_width ranges x.1)) (word_step word_made (record { width = l; at = f }) (x.0, made_seen ranges x.1 (made ranges x.1))).at w

  -- what is made of a level, one operator after the other
  pub words-made : (e : Expression) (xs : List (WordOp × Expression)) (w : ℕ) → made ranges (Words e (word_operands xs)) w ≡ words_on ranges (made ranges e (taken ranges (own_width ranges e) xs w)) (own_width ranges e) xs w
  words-made e xs w = words-folded xs (own_width ranges e) (made ranges e) w

  words-counted : (xs : List (WordOp × Expression)) (l : ℕ) (k : ℕ → ℕ) (w : ℕ)
      → (fold (word_step word_count) (record { width = l; at = k }) (of_words (count_seen ranges) counts (word_operands xs))).at w ≡ k (taken ranges l xs w) + words_cells ranges l xs w
  words-counted [] l k w = no-more (k w)
    where
      no-more : (n : ℕ) → n ≡ n + 0
      no-more n = omega arith
  words-counted (x ∷ xs) l k w =
      let r = own_width ranges x.1 in
      let t = taken ranges (operator_width x.0 l r) xs w in
      words-counted xs (operator_width x.0 l r) (word_step word_count (record { width = l; at = k }) (x.0, count_seen ranges x.1 (cell_count ranges x.1))).at w
      ∙ grouped (k (first_at x.0 l r t)) (cell_count ranges x.1 (second_at x.0 l r t)) (word_cells x.0 (first_at x.0 l r t) (second_at x.0 l r t)) (words_cells ranges (operator_width x.0 l r) xs w)
    where
      grouped : (a b c d : ℕ) → (a + b + c) + d ≡ a + ((b + c) + d)
      grouped a b c d = omega arith

  pub words-cells : (e : Expression) (xs : List (WordOp × Expression)) (w : ℕ) → cell_count ranges (Words e (word_operands xs)) w ≡ cell_count ranges e (taken ranges (own_width ranges e) xs w) + words_cells ranges (own_width ranges e) xs w
  words-cells e xs w = words-counted xs (own_width ranges e) (cell_count ranges e) w

  words-wide : (xs : List (WordOp × Expression)) (l : ℕ) → fold (λ left x. operator_width x.0 left x.1) l (of_words (λ x a. a) (widths ranges) (word_operands xs)) ≡ width_on ranges l xs
  words-wide [] l = refl
  words-wide (x ∷ xs) l = words-wide xs (operator_width x.0 l (own_width ranges x.1))

  pub level-width : (e : Expression) (xs : List (WordOp × Expression)) → own_width ranges (Words e (word_operands xs)) ≡ width_on ranges (own_width ranges e) xs
  level-width e xs = words-wide xs (own_width ranges e)
