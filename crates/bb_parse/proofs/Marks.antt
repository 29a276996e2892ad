-- Marks: what it means that one is next, and how loosely one goes on with what precedes it.
use Rattle.std.proofs.Common.{◌≡◌, ℕ, ◌<◌, List, [], ◌∷◌, Some, true, false, refl, ap, sym, ◌∙◌, arith, get_or, ◌==◌}
use Rattle.std.proofs.lemmas.Bool.{eqb-true}
use denote.Enum.Declared.{tag_of}
use denote.Enum.Bare.{sameb}
use Rattle.bb_lex.specs.contracts.mark.Mark.{the_type}
use Rattle.bb_lex.specs.declared.mark.Mark.{Mark}
use Rattle.bb_lex.specs.declared.mark.Mark.TheVariants.{LeftRound, RightRound, LeftSquare, RightSquare, LeftBrace, RightBrace, Comma, Semicolon, Colon, Dot, Equals, At, Amp, Bar, Caret, Tilde, Query, Plus, Minus, Less, Greater, Bang, LessEqual, GreaterEqual, EqualEqual, BangEqual, LessLess, GreaterGreater, AmpAmp, BarBar, TildeAmp, TildeBar, TildeCaret, CaretTilde}
use Rattle.bb_lex.specs.declared.token.Kind.TheVariants as kinds
use Rattle.bb_parse.specs.Symbols.{Symbol, Identifier, Reserved, SizedNumber, PlainNumber, Sign}
use Rattle.bb_parse.specs.Inside.Symbols.{mark_number, is_next, after, next_kind}

all_marks : List Mark
all_marks =
    LeftRound ∷ RightRound ∷ LeftSquare ∷ RightSquare ∷ LeftBrace ∷ RightBrace ∷ Comma ∷ Semicolon ∷ Colon ∷ Dot ∷ Equals ∷ At ∷ Amp ∷ Bar ∷
    Caret ∷ Tilde ∷ Query ∷ Plus ∷ Minus ∷ Less ∷ Greater ∷ Bang ∷ LessEqual ∷ GreaterEqual ∷ EqualEqual ∷ BangEqual ∷ LessLess ∷
    GreaterGreater ∷ AmpAmp ∷ BarBar ∷ TildeAmp ∷ TildeBar ∷ TildeCaret ∷ CaretTilde ∷ []

mark_numbered : ℕ → Mark
mark_numbered n = get_or all_marks n LeftRound

mark_numbered-mark_number : (m : Mark) → mark_numbered (mark_number m) ≡ m
unfolding mark_numbered all_marks
mark_numbered-mark_number LeftRound = refl
mark_numbered-mark_number m = refl

same_mark : (m n : Mark) → (mark_number m == mark_number n) ≡ true → m ≡ n
same_mark m n h = sym (mark_numbered-mark_number m) ∙ ap mark_numbered (eqb-true _ _ h) ∙ mark_numbered-mark_number n

-- where a mark is next, the list begins with it
pub next_is : (m : Mark) (ts : List Symbol) → is_next m ts ≡ true → ts ≡ Sign m ∷ after ts
next_is m [] h = cc
next_is m (Identifier n ∷ ts) h = cc
next_is m (Reserved w ∷ ts) h = cc
next_is m (SizedNumber b ∷ ts) h = cc
next_is m (PlainNumber n ∷ ts) h = cc
next_is m (Sign n ∷ ts) h = ap (λ x. Sign x ∷ ts) (same_mark n m h)

-- marks compare by their numbers
mark_tag : (m : Mark) → tag_of the_type m ≡ mark_number m
mark_tag LeftRound = refl
mark_tag m = refl

pub same_marks : (m n : Mark) → sameb the_type m n ≡ (mark_number m == mark_number n)
same_marks m n = ap (λ k. k == tag_of the_type n) (mark_tag m) ∙ ap (λ k. mark_number m == k) (mark_tag n)

pub mark_next : (m wanted : Mark) (ts : List Symbol) → Some (kinds.Mark m) ≡ next_kind ts → (mark_number m == mark_number wanted) ≡ is_next wanted ts
mark_next m wanted [] h = cc
mark_next m wanted (Identifier n ∷ ts) h = cc
mark_next m wanted (Reserved w ∷ ts) h = cc
mark_next m wanted (SizedNumber b ∷ ts) h = cc
mark_next m wanted (PlainNumber n ∷ ts) h = cc
mark_next m wanted (Sign n ∷ ts) h = let e : m ≡ n = cc in rw e refl

-- [ goes on with a name, an operator with an operand, ? and = with a condition and a net, and a comma with a list. The operators of a
-- row go on with what precedes them as an operand of it
abbrev pub rank : Mark → ℕ
rank LeftSquare = 1
rank Plus = 2
rank Minus = 2
rank LessLess = 3
rank GreaterGreater = 3
rank Less = 4
rank LessEqual = 4
rank Greater = 4
rank GreaterEqual = 4
rank EqualEqual = 5
rank BangEqual = 5
rank Amp = 6
rank Caret = 7
rank TildeCaret = 7
rank CaretTilde = 7
rank Bar = 8
rank AmpAmp = 9
rank BarBar = 10
rank Query = 11
rank Equals = 11
rank Comma = 12
rank _ = 15

-- how loosely what comes next goes on with what precedes it
abbrev pub rank_next : List Symbol → ℕ
rank_next [] = 15
rank_next (Identifier n ∷ ts) = 15
rank_next (Reserved w ∷ ts) = 15
rank_next (SizedNumber b ∷ ts) = 15
rank_next (PlainNumber n ∷ ts) = 15
rank_next (Sign m ∷ ts) = rank m

pub no_square : (ts : List Symbol) → 1 < rank_next ts → is_next LeftSquare ts ≡ false
no_square [] h = refl
no_square (Identifier n ∷ ts) h = refl
no_square (Reserved w ∷ ts) h = refl
no_square (SizedNumber b ∷ ts) h = refl
no_square (PlainNumber n ∷ ts) h = refl
no_square (Sign LeftSquare ∷ ts) h = absurd (omega arith)
no_square (Sign m ∷ ts) h = refl

pub no_query : (ts : List Symbol) → 11 < rank_next ts → is_next Query ts ≡ false
no_query [] h = refl
no_query (Identifier n ∷ ts) h = refl
no_query (Reserved w ∷ ts) h = refl
no_query (SizedNumber b ∷ ts) h = refl
no_query (PlainNumber n ∷ ts) h = refl
no_query (Sign Query ∷ ts) h = absurd (omega arith)
no_query (Sign m ∷ ts) h = refl

pub no_comma : (ts : List Symbol) → 12 < rank_next ts → is_next Comma ts ≡ false
no_comma [] h = refl
no_comma (Identifier n ∷ ts) h = refl
no_comma (Reserved w ∷ ts) h = refl
no_comma (SizedNumber b ∷ ts) h = refl
no_comma (PlainNumber n ∷ ts) h = refl
no_comma (Sign Comma ∷ ts) h = absurd (omega arith)
no_comma (Sign m ∷ ts) h = refl

pub no_equals : (ts : List Symbol) → 11 < rank_next ts → is_next Equals ts ≡ false
no_equals [] h = refl
no_equals (Identifier n ∷ ts) h = refl
no_equals (Reserved w ∷ ts) h = refl
no_equals (SizedNumber b ∷ ts) h = refl
no_equals (PlainNumber n ∷ ts) h = refl
no_equals (Sign Equals ∷ ts) h = absurd (omega arith)
no_equals (Sign m ∷ ts) h = refl
