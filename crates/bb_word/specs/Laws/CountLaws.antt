-- How many cells the circuits make, and how many bits they give. The laws hold for gates of every kind, also for those
-- of no type of the code: so they are proved here, and the function of the crate has them as contract for formulas.
use Rattle.std.proofs.Common.{◌≡◌, ◌∙◌, ◌+◌, ◌*◌, ◌-◌, ℕ, suc, List, [], ◌∷◌, ◌++◌, length, reverse, drop, replicate, refl, sym, ap, arith}
use Rattle.std.specs.Prelude.{min}
use Rattle.std.proofs.lemmas.List.{length-reverse, length-append, length-map, length-replicate, length-drop, length-take}
use Rattle.bb_ast.specs.declared.operators.WordOp.{WordOp}
use Rattle.bb_ast.specs.declared.operators.WordOp.TheVariants as ops
use Rattle.bb_ast.specs.declared.operators.FoldOp.{FoldOp}
use Rattle.bb_ast.specs.declared.operators.FoldOp.TheVariants as folds
use Rattle.bb_word.specs.Gates.{Gates, Made}
use Rattle.bb_word.specs.Circuits.{complements, sum, difference, equal_bits, accumulated, joined_all, folded, inverted, equal, less, choices, up, down, shifted, truths}
use Rattle.bb_word.specs.Words.{word_circuit, word_cells, HaveOneWidth}
use Rattle.bb_word.specs.Folds.{fold_circuit, fold_cells}
use Rattle.bb_word.specs.Meanings.{word_width}

pub length-up : {A : Type 0} (o : A) (n : ℕ) (xs : List A) → length (up o n xs) ≡ length xs
length-up o n xs = omega (arith, length-take (length xs) (replicate n o ++ xs), length-append (replicate n o) xs, length-replicate n o)

pub length-down : {A : Type 0} (o : A) (n : ℕ) (xs : List A) → length (down o n xs) ≡ length xs
length-down o n xs = omega (arith, length-append (drop n xs) (replicate (min n (length xs)) o), length-drop n xs, length-replicate (min n (length xs)) o)

module _ {A : Type 0} (g : Gates A) where
  count-sum : (c : A) (xs ys : List A) → length xs ≡ length ys → length (sum g c xs ys).cells ≡ 5 * length xs
  count-sum c [] ys same = refl
  count-sum c (x ∷ xs) [] same = absurd (omega (arith, same))
  count-sum c (x ∷ xs) (y ∷ ys) same = omega (arith, count-sum (g.either (g.both x y) (g.both (g.differ x y) c)) xs ys (omega (arith, same)))

  count-accumulated : (op : A → A → A) (a : A) (xs : List A) → (length (accumulated op a xs).cells ≡ length xs) × (length (accumulated op a xs).bits ≡ 1)
  count-accumulated op a [] = (refl, refl)
  count-accumulated op a (x ∷ xs) = let rest = count-accumulated op (op a x) xs in (ap suc rest.0, rest.1)

  pub count-joined_all : (op : A → A → A) (o : A) (xs : List A) → (length (joined_all op o xs).cells ≡ length xs - 1) × (length (joined_all op o xs).bits ≡ 1)
  count-joined_all op o [] = (refl, refl)
  count-joined_all op o (x ∷ xs) = let rest = count-accumulated op x xs in (omega (arith, rest.0), rest.1)

  pub count-folded : (op : A → A → A) (o : A) (xs : List A) → (length (folded op o xs).cells ≡ length xs - 1) × (length (folded op o xs).bits ≡ 1)
  count-folded op o xs = let all = count-joined_all op o (reverse xs) in (omega (arith, all.0, length-reverse xs), all.1)

  count-inverted : (made : Made A) → length made.bits ≡ 1 → length (inverted g made).cells ≡ length made.cells + 1
  count-inverted made one = length-append made.cells (complements g made.bits) ∙ ap (λ n. length made.cells + n) (length-map made.bits g.inverse ∙ one)

  pub count-equal_bits : (xs ys : List A) → length xs ≡ length ys → (length (equal_bits g xs ys).cells ≡ 2 * length xs) × (length (equal_bits g xs ys).bits ≡ length xs)
  count-equal_bits [] ys same = (refl, refl)
  count-equal_bits (x ∷ xs) [] same = absurd (omega (arith, same))
  count-equal_bits (x ∷ xs) (y ∷ ys) same = let rest = count-equal_bits xs ys (omega (arith, same)) in (omega (arith, rest.0), ap suc rest.1)

  count-equal : (xs ys : List A) → length xs ≡ length ys → (length (equal g xs ys).cells ≡ 2 * length xs + (length xs - 1)) × (length (equal g xs ys).bits ≡ 1)
  count-equal xs ys same =
      let first = count-equal_bits xs ys same in
      let all = count-folded g.both g.one (equal_bits g xs ys).bits in
      (omega (arith, length-append (equal_bits g xs ys).cells (folded g.both g.one (equal_bits g xs ys).bits).cells, first.0, first.1, all.0), all.1)

  count-less : (c : A) (xs ys : List A) → length xs ≡ length ys → (length (less g c xs ys).cells ≡ 2 * length xs) × (length (less g c xs ys).bits ≡ 1)
  count-less c [] ys same = (refl, refl)
  count-less c (x ∷ xs) [] same = absurd (omega (arith, same))
  count-less c (x ∷ xs) (y ∷ ys) same = let rest = count-less (g.choice (g.differ x y) y c) xs ys (omega (arith, same)) in (omega (arith, rest.0), rest.1)

  count-choices : (c : A) (ts es : List A) → length ts ≡ length es → length (choices g c ts es) ≡ length es
  count-choices c [] [] same = refl
  count-choices c [] (e ∷ es) same = absurd (omega (arith, same))
  count-choices c (t ∷ ts) [] same = absurd (omega (arith, same))
  count-choices c (t ∷ ts) (e ∷ es) same = ap suc (count-choices c ts es (omega (arith, same)))

  count-shifted : (move : ℕ → List A → List A) → ((n : ℕ) (xs : List A) → length (move n xs) ≡ length xs) → (n : ℕ) (amount xs : List A) → length (shifted g move n amount xs).cells ≡ length amount * length xs
  count-shifted move long n [] xs = omega arith
  count-shifted move long n (s ∷ amount) xs =
      let stage = choices g s (move n xs) xs in
      let wide : length stage ≡ length xs = count-choices s (move n xs) xs (long n xs) in
      let rest = count-shifted move long (n + n) amount stage ∙ ap (λ k. length amount * k) wide in
      omega (arith, length-append stage (shifted g move (n + n) amount stage).cells, rest, wide)

  count-truths : (op : A → A → A) (xs ys : List A) → length (truths g op xs ys).cells ≡ (length xs - 1) + (length ys - 1) + 1
  count-truths op xs ys =
      let l = folded g.either g.zero xs in
      let r = folded g.either g.zero ys in
      let left = count-folded g.either g.zero xs in
      let right = count-folded g.either g.zero ys in
      let both = length-append l.bits r.bits in
      let last = count-joined_all op g.zero (l.bits ++ r.bits) in
      omega (arith, length-append (l.cells ++ r.cells) (joined_all op g.zero (l.bits ++ r.bits)).cells, length-append l.cells r.cells, left.0, left.1, right.0, right.1, both, last.0)

  count-difference : (xs ys : List A) → length xs ≡ length ys → length (difference g xs ys).cells ≡ 6 * length xs
  count-difference xs ys same =
      let n = length-map ys g.inverse in
      omega (arith, length-append (complements g ys) (sum g g.one xs (complements g ys)).cells, n, same, count-sum g.one xs (complements g ys) (same ∙ sym n))

  pub fold_count : (op : FoldOp) (xs : List A) → length (fold_circuit g op xs).cells ≡ fold_cells op (length xs)
  fold_count folds.None xs = let f = count-folded g.either g.zero xs in count-inverted (folded g.either g.zero xs) f.1 ∙ ap (λ n. n + 1) f.0
  fold_count folds.All xs = (count-folded g.both g.one xs).0
  fold_count folds.NotAll xs = let f = count-folded g.both g.one xs in count-inverted (folded g.both g.one xs) f.1 ∙ ap (λ n. n + 1) f.0
  fold_count folds.Any xs = (count-folded g.either g.zero xs).0
  fold_count folds.NotAny xs = let f = count-folded g.either g.zero xs in count-inverted (folded g.either g.zero xs) f.1 ∙ ap (λ n. n + 1) f.0
  fold_count folds.Odd xs = (count-folded g.differ g.zero xs).0
  fold_count folds.NotOdd xs = let f = count-folded g.differ g.zero xs in count-inverted (folded g.differ g.zero xs) f.1 ∙ ap (λ n. n + 1) f.0

  pub word_count : (op : WordOp) (xs ys : List A) → HaveOneWidth op (length xs) (length ys) → length (word_circuit g op xs ys).cells ≡ word_cells op (length xs) (length ys)
  word_count ops.Plus xs ys w = count-sum g.zero xs ys w
  word_count ops.Minus xs ys w = count-difference xs ys w
  word_count ops.Equal xs ys w = (count-equal xs ys w).0
  word_count ops.NotEqual xs ys w = let e = count-equal xs ys w in count-inverted (equal g xs ys) e.1 ∙ ap (λ n. n + 1) e.0
  word_count ops.Less xs ys w = (count-less g.zero xs ys w).0
  word_count ops.LessEqual xs ys w = let e = count-less g.zero ys xs (sym w) in count-inverted (less g g.zero ys xs) e.1 ∙ ap (λ n. n + 1) e.0 ∙ ap (λ n. 2 * n + 1) (sym w)
  word_count ops.Greater xs ys w = (count-less g.zero ys xs (sym w)).0 ∙ ap (λ n. 2 * n) (sym w)
  word_count ops.GreaterEqual xs ys w = let e = count-less g.zero xs ys w in count-inverted (less g g.zero xs ys) e.1 ∙ ap (λ n. n + 1) e.0
  word_count ops.Left xs ys w = count-shifted (up g.zero) (length-up g.zero) 1 ys xs
  word_count ops.Right xs ys w = count-shifted (down g.zero) (length-down g.zero) 1 ys xs
  word_count ops.Both xs ys w = count-truths g.both xs ys
  word_count ops.Either xs ys w = count-truths g.either xs ys

  long-sum : (c : A) (xs ys : List A) → length xs ≡ length ys → length (sum g c xs ys).bits ≡ length xs
  long-sum c [] ys same = refl
  long-sum c (x ∷ xs) [] same = absurd (omega (arith, same))
  long-sum c (x ∷ xs) (y ∷ ys) same = ap suc (long-sum (g.either (g.both x y) (g.both (g.differ x y) c)) xs ys (omega (arith, same)))

  long-inverted : (made : Made A) → length (inverted g made).bits ≡ length made.bits
  long-inverted made = length-map made.bits g.inverse

  long-shifted : (move : ℕ → List A → List A) → ((n : ℕ) (xs : List A) → length (move n xs) ≡ length xs) → (n : ℕ) (amount xs : List A) → length (shifted g move n amount xs).bits ≡ length xs
  long-shifted move long n [] xs = refl
  long-shifted move long n (s ∷ amount) xs = long-shifted move long (n + n) amount (choices g s (move n xs) xs) ∙ count-choices s (move n xs) xs (long n xs)

  long-truths : (op : A → A → A) (xs ys : List A) → length (truths g op xs ys).bits ≡ 1
  long-truths op xs ys = (count-joined_all op g.zero ((folded g.either g.zero xs).bits ++ (folded g.either g.zero ys).bits)).1

  -- a reduction gives one bit
  pub fold_long : (op : FoldOp) (xs : List A) → length (fold_circuit g op xs).bits ≡ 1
  fold_long folds.None xs = long-inverted (folded g.either g.zero xs) ∙ (count-folded g.either g.zero xs).1
  fold_long folds.All xs = (count-folded g.both g.one xs).1
  fold_long folds.NotAll xs = long-inverted (folded g.both g.one xs) ∙ (count-folded g.both g.one xs).1
  fold_long folds.Any xs = (count-folded g.either g.zero xs).1
  fold_long folds.NotAny xs = long-inverted (folded g.either g.zero xs) ∙ (count-folded g.either g.zero xs).1
  fold_long folds.Odd xs = (count-folded g.differ g.zero xs).1
  fold_long folds.NotOdd xs = long-inverted (folded g.differ g.zero xs) ∙ (count-folded g.differ g.zero xs).1

  -- how many bits an operator on two words gives
  pub word_long : (op : WordOp) (xs ys : List A) → HaveOneWidth op (length xs) (length ys) → length (word_circuit g op xs ys).bits ≡ word_width op (length xs)
  word_long ops.Plus xs ys w = long-sum g.zero xs ys w
  word_long ops.Minus xs ys w = long-sum g.one xs (complements g ys) (w ∙ sym (length-map ys g.inverse))
  word_long ops.Equal xs ys w = (count-equal xs ys w).1
  word_long ops.NotEqual xs ys w = long-inverted (equal g xs ys) ∙ (count-equal xs ys w).1
  word_long ops.Less xs ys w = (count-less g.zero xs ys w).1
  word_long ops.LessEqual xs ys w = long-inverted (less g g.zero ys xs) ∙ (count-less g.zero ys xs (sym w)).1
  word_long ops.Greater xs ys w = (count-less g.zero ys xs (sym w)).1
  word_long ops.GreaterEqual xs ys w = long-inverted (less g g.zero xs ys) ∙ (count-less g.zero xs ys w).1
  word_long ops.Left xs ys w = long-shifted (up g.zero) (length-up g.zero) 1 ys xs
  word_long ops.Right xs ys w = long-shifted (down g.zero) (length-down g.zero) 1 ys xs
  word_long ops.Both xs ys w = long-truths g.both xs ys
  word_long ops.Either xs ys w = long-truths g.either xs ys
