-- Which operators marks are: of which row, with which rank, and that they open and close nothing.
use Rattle.std.proofs.Common.{◌≡◌, ℕ, ◌+◌, ◌<◌, List, [], ◌∷◌, Option, Some, None, Bool, true, false, cond, refl, ap, sym, ◌∙◌, arith, is_some, ◌||◌, ◌==◌}
use Rattle.std.proofs.lemmas.Bool.{eqb-true}
use Rattle.bb_ast.specs.declared.expr.Op.{Op}
use Rattle.bb_ast.specs.declared.expr.Op.TheVariants as bits
use Rattle.bb_ast.specs.declared.operators.WordOp.{WordOp}
use Rattle.bb_ast.specs.declared.operators.WordOp.TheVariants as words
use Rattle.bb_ast.specs.Levels.{level_of}
use Rattle.bb_lex.specs.declared.mark.Mark.{Mark}
use Rattle.bb_lex.specs.declared.mark.Mark.TheVariants.{LeftRound, RightRound, LeftSquare, RightSquare, LeftBrace, RightBrace, Colon, Amp, Bar, Caret, Query, Plus, Minus, Less, Greater, LessEqual, GreaterEqual, EqualEqual, BangEqual, LessLess, GreaterGreater, AmpAmp, BarBar, TildeCaret, CaretTilde}
use Rattle.bb_parse.specs.Symbols.{Symbol, Identifier, Reserved, SizedNumber, PlainNumber, Sign}
use Rattle.bb_parse.specs.Expressions.{on_one, bit_operator_of, bit_row, on_words, of_row, bit_operator, word_operator}
use Rattle.bb_parse.specs.Nesting.{mark_count, mark_square}
use Rattle.bb_parse.specs.Inside.Symbols.{after}
use Rattle.bb_parse.specs.Inside.Expressions.{next_operator, begins_operator}
use Rattle.bb_parse.proofs.Marks.{rank, rank_next}

-- an operator of a row is an operator, and of that row
row_by : {O : Type 0} (b : Bool) (x op : O) → cond b (Some x) None ≡ Some op → (b ≡ true) × (x ≡ op)
row_by true x op h = (refl, cc)
row_by false x op h = absurd (cc)

pub of_row-some : {O : Type 0} (row : O → ℕ) (n : ℕ) (o : Option O) (op : O) → of_row row n o ≡ Some op → (o ≡ Some op) × (row op ≡ n)
of_row-some row n None op h = absurd (cc)
of_row-some row n (Some x) op h =
    let both = row_by (row x == n) x op h in
    (ap Some both.1, ap row (sym both.1) ∙ eqb-true (row x) n both.0)

bit_rank : (m : Mark) (op : Op) → bit_operator_of m ≡ Some op → rank m ≡ bit_row op + 2
bit_rank Amp op h = let e : bits.And ≡ op = cc in ap (λ (o : Op). bit_row o + 2) e
bit_rank Caret op h = let e : bits.Xor ≡ op = cc in ap (λ (o : Op). bit_row o + 2) e
bit_rank TildeCaret op h = let e : bits.Xnor ≡ op = cc in ap (λ (o : Op). bit_row o + 2) e
bit_rank CaretTilde op h = let e : bits.Xnor ≡ op = cc in ap (λ (o : Op). bit_row o + 2) e
bit_rank Bar op h = let e : bits.Or ≡ op = cc in ap (λ (o : Op). bit_row o + 2) e
bit_rank m op h = absurd (cc)

word_rank : (m : Mark) (op : WordOp) → on_words m ≡ Some op → rank m ≡ level_of op + 2
word_rank Plus op h = let e : words.Plus ≡ op = cc in ap (λ (o : WordOp). level_of o + 2) e
word_rank Minus op h = let e : words.Minus ≡ op = cc in ap (λ (o : WordOp). level_of o + 2) e
word_rank LessLess op h = let e : words.Left ≡ op = cc in ap (λ (o : WordOp). level_of o + 2) e
word_rank GreaterGreater op h = let e : words.Right ≡ op = cc in ap (λ (o : WordOp). level_of o + 2) e
word_rank Less op h = let e : words.Less ≡ op = cc in ap (λ (o : WordOp). level_of o + 2) e
word_rank LessEqual op h = let e : words.LessEqual ≡ op = cc in ap (λ (o : WordOp). level_of o + 2) e
word_rank Greater op h = let e : words.Greater ≡ op = cc in ap (λ (o : WordOp). level_of o + 2) e
word_rank GreaterEqual op h = let e : words.GreaterEqual ≡ op = cc in ap (λ (o : WordOp). level_of o + 2) e
word_rank EqualEqual op h = let e : words.Equal ≡ op = cc in ap (λ (o : WordOp). level_of o + 2) e
word_rank BangEqual op h = let e : words.NotEqual ≡ op = cc in ap (λ (o : WordOp). level_of o + 2) e
word_rank AmpAmp op h = let e : words.Both ≡ op = cc in ap (λ (o : WordOp). level_of o + 2) e
word_rank BarBar op h = let e : words.Either ≡ op = cc in ap (λ (o : WordOp). level_of o + 2) e
word_rank m op h = absurd (cc)

-- the marks of a row have its rank
abbrev pub AreOfRank : {O : Type 0} → (Mark → Option O) → ℕ → Type 0
AreOfRank {O} operator k = (m : Mark) (op : O) → operator m ≡ Some op → rank m ≡ k

pub bit_ranks : (n : ℕ) → AreOfRank (bit_operator n) (n + 2)
bit_ranks n m op h = let both = of_row-some bit_row n (bit_operator_of m) op h in bit_rank m op both.0 ∙ ap (λ k. k + 2) both.1

pub word_ranks : (n : ℕ) → AreOfRank (word_operator n) (n + 2)
word_ranks n m op h = let both = of_row-some level_of n (on_words m) op h in word_rank m op both.0 ∙ ap (λ k. k + 2) both.1

-- where an operator is next, the list begins with a mark that is it
pub operator_is : {O : Type 0} (operator : Mark → Option O) (ts : List Symbol) (op : O) → next_operator operator ts ≡ Some op
    → (m : Mark) × (ts ≡ Sign m ∷ after ts) × (operator m ≡ Some op)
operator_is operator [] op h = absurd (cc)
operator_is operator (Identifier n ∷ ts) op h = absurd (cc)
operator_is operator (Reserved w ∷ ts) op h = absurd (cc)
operator_is operator (SizedNumber b ∷ ts) op h = absurd (cc)
operator_is operator (PlainNumber n ∷ ts) op h = absurd (cc)
operator_is operator (Sign m ∷ ts) op h = (m, refl, h)

none_by : {O : Type 0} (operator : Mark → Option O) (k : ℕ) → AreOfRank operator k → (m : Mark) (o : Option O) → operator m ≡ o → k < rank m → operator m ≡ None
none_by operator k ranks m None e h = e
none_by operator k ranks m (Some op) e h = absurd (omega (arith, ranks m op e))

-- what goes on more loosely is no operator of the row
pub no_operator : {O : Type 0} (operator : Mark → Option O) (k : ℕ) → AreOfRank operator k → (ts : List Symbol) → k < rank_next ts → next_operator operator ts ≡ None
no_operator operator k ranks [] h = refl
no_operator operator k ranks (Identifier n ∷ ts) h = refl
no_operator operator k ranks (Reserved w ∷ ts) h = refl
no_operator operator k ranks (SizedNumber b ∷ ts) h = refl
no_operator operator k ranks (PlainNumber n ∷ ts) h = refl
no_operator operator k ranks (Sign m ∷ ts) h = none_by operator k ranks m (operator m) refl h

-- where no operator is next, none of a row is
none_in_row : {O : Type 0} (row : O → ℕ) (n : ℕ) (o : Option O) → is_some o ≡ false → of_row row n o ≡ None
none_in_row row n None h = refl
none_in_row row n (Some op) h = absurd (cc)

left_false : (a b : Bool) → (a || b) ≡ false → a ≡ false
left_false true b h = absurd (cc)
left_false false b h = refl

right_false : (a b : Bool) → (a || b) ≡ false → b ≡ false
right_false true b h = absurd (cc)
right_false false b h = h

pub none_begins : (n : ℕ) (ts : List Symbol) → begins_operator ts ≡ false → (next_operator (bit_operator n) ts ≡ None) × (next_operator (word_operator n) ts ≡ None)
unfolding begins_operator
none_begins n [] h = (refl, refl)
none_begins n (Identifier a ∷ ts) h = (refl, refl)
none_begins n (Reserved w ∷ ts) h = (refl, refl)
none_begins n (SizedNumber b ∷ ts) h = (refl, refl)
none_begins n (PlainNumber a ∷ ts) h = (refl, refl)
none_begins n (Sign m ∷ ts) h =
    (none_in_row bit_row n (bit_operator_of m) (left_false (is_some (bit_operator_of m)) _ h), none_in_row level_of n (on_words m) (right_false (is_some (bit_operator_of m)) (is_some (on_words m)) h))

-- no operator opens or closes anything
is_operator : Mark → Bool
is_operator m = is_some (on_one m) || (is_some (bit_operator_of m) || is_some (on_words m))

abbrev pub KeepsCount : Mark → ℕ → Type 0
KeepsCount m c = (mark_count m 0 c ≡ c) × (mark_square m 0 ≡ 0)

keeps_count : (m : Mark) (c : ℕ) → is_operator m ≡ true → KeepsCount m c
unfolding is_operator
keeps_count LeftRound c h = absurd (cc)
keeps_count RightRound c h = absurd (cc)
keeps_count LeftSquare c h = absurd (cc)
keeps_count RightSquare c h = absurd (cc)
keeps_count LeftBrace c h = absurd (cc)
keeps_count RightBrace c h = absurd (cc)
keeps_count Colon c h = absurd (cc)
keeps_count Query c h = absurd (cc)
keeps_count m c h = (refl, refl)

abbrev pub KeepCounts : {O : Type 0} → (Mark → Option O) → Type 0
KeepCounts {O} operator = (m : Mark) (op : O) (c : ℕ) → operator m ≡ Some op → KeepsCount m c

true_or : (a b : Bool) → b ≡ true → (a || b) ≡ true
true_or true b h = refl
true_or false b h = h

or_true : (a b : Bool) → a ≡ true → (a || b) ≡ true
or_true true b h = refl
or_true false b h = absurd (cc)

pub one_keeps_counts : KeepCounts on_one
unfolding is_operator
one_keeps_counts m op c h = keeps_count m c (or_true (is_some (on_one m)) _ (ap is_some h))

pub bits_keep_counts : (n : ℕ) → KeepCounts (bit_operator n)
unfolding is_operator
bits_keep_counts n m op c h =
    let both = of_row-some bit_row n (bit_operator_of m) op h in
    keeps_count m c (true_or (is_some (on_one m)) _ (or_true (is_some (bit_operator_of m)) _ (ap is_some both.0)))

pub words_keep_counts : (n : ℕ) → KeepCounts (word_operator n)
unfolding is_operator
words_keep_counts n m op c h =
    let both = of_row-some level_of n (on_words m) op h in
    keeps_count m c (true_or (is_some (on_one m)) _ (true_or (is_some (bit_operator_of m)) _ (ap is_some both.0)))
