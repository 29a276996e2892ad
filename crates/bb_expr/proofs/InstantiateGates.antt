-- All cells of a circuit over formulas are operators.
use Rattle.std.proofs.Common.{◌≡◌, ℕ, ◌+◌, true, List, [], ◌∷◌, ◌++◌, reverse, refl}
use Rattle.std.specs.List.{AllByRecursion}
use Rattle.bb_ast.specs.declared.operators.WordOp.{WordOp}
use Rattle.bb_ast.specs.declared.operators.WordOp.TheVariants as ops
use Rattle.bb_ast.specs.declared.operators.FoldOp.{FoldOp}
use Rattle.bb_ast.specs.declared.operators.FoldOp.TheVariants as folds
use Rattle.bb_word.specs.Laws.Formulas.{Formula, formulas}
use Rattle.bb_word.specs.Gates.{Made}
use Rattle.bb_word.specs.Circuits.{complements, sum, equal_bits, accumulated, joined_all, folded, inverted, equal, less, choices, up, down, shifted, truths}
use Rattle.bb_word.specs.Words.{word_circuit}
use Rattle.bb_word.specs.Folds.{fold_circuit}
use Rattle.bb_expr.specs.Inside.Instantiation.{is_gate}
use Rattle.bb_expr.proofs.ListLemmas.{all-join}

abbrev pub AreGates : List Formula → Type 0
AreGates all = AllByRecursion (λ f. is_gate f ≡ true) all

join : (xs ys : List Formula) → AreGates xs → AreGates ys → AreGates (xs ++ ys)
join xs ys = all-join (λ f. is_gate f ≡ true) xs ys

complements-gates : (xs : List Formula) → AreGates (complements formulas xs)
complements-gates [] = tt
complements-gates (x ∷ xs) = (refl, complements-gates xs)

sum-gates : (c : Formula) (xs ys : List Formula) → AreGates (sum formulas c xs ys).cells
sum-gates c [] ys = tt
sum-gates c (x ∷ xs) [] = tt
sum-gates c (x ∷ xs) (y ∷ ys) =
    let p = formulas.differ x y in
    (refl, (refl, (refl, (refl, (refl, sum-gates (formulas.either (formulas.both x y) (formulas.both p c)) xs ys)))))

equal_bits-gates : (xs ys : List Formula) → AreGates (equal_bits formulas xs ys).cells
equal_bits-gates [] ys = tt
equal_bits-gates (x ∷ xs) [] = tt
equal_bits-gates (x ∷ xs) (y ∷ ys) = (refl, (refl, equal_bits-gates xs ys))

less-gates : (c : Formula) (xs ys : List Formula) → AreGates (less formulas c xs ys).cells
less-gates c [] ys = tt
less-gates c (x ∷ xs) [] = tt
less-gates c (x ∷ xs) (y ∷ ys) = (refl, (refl, less-gates (formulas.choice (formulas.differ x y) y c) xs ys))

choices-gates : (c : Formula) (ts es : List Formula) → AreGates (choices formulas c ts es)
choices-gates c [] es = tt
choices-gates c (t ∷ ts) [] = tt
choices-gates c (t ∷ ts) (e ∷ es) = (refl, choices-gates c ts es)

shifted-gates : (move : ℕ → List Formula → List Formula) (n : ℕ) (amount xs : List Formula) → AreGates (shifted formulas move n amount xs).cells
shifted-gates move n [] xs = tt
shifted-gates move n (s ∷ amount) xs =
    let stage = choices formulas s (move n xs) xs in
    join stage (shifted formulas move (n + n) amount stage).cells (choices-gates s (move n xs) xs) (shifted-gates move (n + n) amount stage)

inverted-gates : (made : Made Formula) → AreGates made.cells → AreGates (inverted formulas made).cells
inverted-gates made all = join made.cells (complements formulas made.bits) all (complements-gates made.bits)

module _ (op : Formula → Formula → Formula) (is : (a b : Formula) → is_gate (op a b) ≡ true) where
  accumulated-gates : (a : Formula) (xs : List Formula) → AreGates (accumulated op a xs).cells
  accumulated-gates a [] = tt
  accumulated-gates a (x ∷ xs) = (is a x, accumulated-gates (op a x) xs)

  all-gates : (none : Formula) (xs : List Formula) → AreGates (joined_all op none xs).cells
  all-gates none [] = tt
  all-gates none (x ∷ xs) = accumulated-gates x xs

  folded-gates : (none : Formula) (xs : List Formula) → AreGates (folded op none xs).cells
  folded-gates none xs = all-gates none (reverse xs)

equal-gates : (xs ys : List Formula) → AreGates (equal formulas xs ys).cells
equal-gates xs ys = join (equal_bits formulas xs ys).cells (folded formulas.both formulas.one (equal_bits formulas xs ys).bits).cells (equal_bits-gates xs ys) (folded-gates formulas.both (λ a b. refl) formulas.one (equal_bits formulas xs ys).bits)

truths-gates : (op : Formula → Formula → Formula) → ((a b : Formula) → is_gate (op a b) ≡ true) → (xs ys : List Formula) → AreGates (truths formulas op xs ys).cells
truths-gates op is xs ys =
    let l = folded formulas.either formulas.zero xs in
    let r = folded formulas.either formulas.zero ys in
    join (l.cells ++ r.cells) (joined_all op formulas.zero (l.bits ++ r.bits)).cells
    (join l.cells r.cells (folded-gates formulas.either (λ a b. refl) formulas.zero xs) (folded-gates formulas.either (λ a b. refl) formulas.zero ys))
    (all-gates op is formulas.zero (l.bits ++ r.bits))

pub fold-gates : (op : FoldOp) (xs : List Formula) → AreGates (fold_circuit formulas op xs).cells
fold-gates folds.None xs = inverted-gates (folded formulas.either formulas.zero xs) (folded-gates formulas.either (λ a b. refl) formulas.zero xs)
fold-gates folds.All xs = folded-gates formulas.both (λ a b. refl) formulas.one xs
fold-gates folds.NotAll xs = inverted-gates (folded formulas.both formulas.one xs) (folded-gates formulas.both (λ a b. refl) formulas.one xs)
fold-gates folds.Any xs = folded-gates formulas.either (λ a b. refl) formulas.zero xs
fold-gates folds.NotAny xs = inverted-gates (folded formulas.either formulas.zero xs) (folded-gates formulas.either (λ a b. refl) formulas.zero xs)
fold-gates folds.Odd xs = folded-gates formulas.differ (λ a b. refl) formulas.zero xs
fold-gates folds.NotOdd xs = inverted-gates (folded formulas.differ formulas.zero xs) (folded-gates formulas.differ (λ a b. refl) formulas.zero xs)

pub word-gates : (op : WordOp) (xs ys : List Formula) → AreGates (word_circuit formulas op xs ys).cells
word-gates ops.Plus xs ys = sum-gates formulas.zero xs ys
word-gates ops.Minus xs ys = join (complements formulas ys) (sum formulas formulas.one xs (complements formulas ys)).cells (complements-gates ys) (sum-gates formulas.one xs (complements formulas ys))
word-gates ops.Equal xs ys = equal-gates xs ys
word-gates ops.NotEqual xs ys = inverted-gates (equal formulas xs ys) (equal-gates xs ys)
word-gates ops.Less xs ys = less-gates formulas.zero xs ys
word-gates ops.LessEqual xs ys = inverted-gates (less formulas formulas.zero ys xs) (less-gates formulas.zero ys xs)
word-gates ops.Greater xs ys = less-gates formulas.zero ys xs
word-gates ops.GreaterEqual xs ys = inverted-gates (less formulas formulas.zero xs ys) (less-gates formulas.zero xs ys)
word-gates ops.Left xs ys = shifted-gates (up formulas.zero) 1 ys xs
word-gates ops.Right xs ys = shifted-gates (down formulas.zero) 1 ys xs
word-gates ops.Both xs ys = truths-gates formulas.both (λ a b. refl) xs ys
word-gates ops.Either xs ys = truths-gates formulas.either (λ a b. refl) xs ys
