-- Lines are counted by line feeds: no other piece has one.
use Rattle.std.proofs.Common.{◌≡◌, ℕ, ◌+◌, Bool, true, false, List, [], ◌∷◌, ◌++◌, refl, ap, ◌∙◌, arith}
use Rattle.std.specs.Prelude.{◌==◌, if◌then◌else◌, count_by}
use Rattle.std.proofs.lemmas.List.Recursion.{is_count_by}
use Rattle.bb_lex.specs.declared.mark.Mark.{Mark}
use Rattle.bb_lex.specs.declared.mark.Mark.TheVariants.{LeftRound}
use Rattle.bb_lex.specs.Bytes.{newline, is_identifier_byte, is_graphic, Each}
use Rattle.bb_lex.specs.Cut.{line_after}
use Rattle.bb_lex.specs.Pieces.{IsIdentifier, written}
use Rattle.bb_readback.specs.Inside.Written.{Written, EscapedName, SimpleName, ReservedWord, BitNumber, OneMark, Blank, Feed, spelled, spelling, Fits, AreFit}
use Rattle.bb_readback.proofs.Classes.{first_is_byte, graphic_in_line, byte_in_line, each_graphic}

abbrev pub feed : Written → ℕ
feed Feed = 1
feed w = 0

abbrev pub feeds : List Written → ℕ
feeds [] = 0
feeds (w ∷ ws) = feed w + feeds ws

pub feeds-append : (vs ws : List Written) → feeds (vs ++ ws) ≡ feeds vs + feeds ws
feeds-append [] ws = omega arith
feeds-append (v ∷ vs) ws = omega (arith, feeds-append vs ws)

-- the line feeds among bytes
abbrev feeds_in : List ℕ → ℕ
feeds_in [] = 0
feeds_in (b ∷ bytes) = if b == newline then 1 + feeds_in bytes else feeds_in bytes

one_more : (b : Bool) (m n k : ℕ) → m ≡ n + k → (if b then 1 + m else m) ≡ (if b then 1 + n else n) + k
one_more true m n k e = omega (arith, e)
one_more false m n k e = e

feeds_in-append : (xs ys : List ℕ) → feeds_in (xs ++ ys) ≡ feeds_in xs + feeds_in ys
feeds_in-append [] ys = omega arith
feeds_in-append (x ∷ xs) ys = one_more (x == newline) (feeds_in (xs ++ ys)) (feeds_in xs) (feeds_in ys) (feeds_in-append xs ys)

counted : (bytes : List ℕ) → feeds_in bytes ≡ count_by (λ b. b == newline) bytes
counted bytes = is_count_by feeds_in (λ b. b == newline) refl (λ x xs. refl) bytes

no_feed : (p : ℕ → Bool) (bytes : List ℕ) → ((b : ℕ) → p b ≡ true → (b == 10) ≡ false) → Each p bytes → feeds_in bytes ≡ 0
no_feed p [] other each = refl
no_feed p (b ∷ bytes) other each = rw (other b each.0, no_feed p bytes other each.1) refl

identifier_feed : (bytes : List ℕ) → IsIdentifier bytes → feeds_in bytes ≡ 0
identifier_feed [] is = elim is [ ]
identifier_feed (b ∷ bytes) is = no_feed is_identifier_byte (b ∷ bytes) byte_in_line (first_is_byte b is.0, is.1)

mark_feed : (mark : Mark) → feeds_in (written mark) ≡ 0
mark_feed LeftRound = refl
mark_feed mark = refl

spelled_feed : (w : Written) (after : List ℕ) → Fits w after → feeds_in (spelled w) ≡ feed w
spelled_feed (EscapedName name) after fits = rw (no_feed is_graphic name graphic_in_line (each_graphic name fits.0.1)) refl
spelled_feed (SimpleName bytes) after fits = identifier_feed bytes fits.0
spelled_feed (ReservedWord bytes keyword) after fits = identifier_feed bytes fits.0
spelled_feed (BitNumber true) after fits = refl
spelled_feed (BitNumber false) after fits = refl
spelled_feed (OneMark mark) after fits = mark_feed mark
spelled_feed Blank after fits = refl
spelled_feed Feed after fits = refl

spelling_feeds : (ws : List Written) (after : List ℕ) → AreFit ws after → feeds_in (spelling ws) ≡ feeds ws
spelling_feeds [] after fits = refl
spelling_feeds (w ∷ ws) after fits =
    feeds_in-append (spelled w) (spelling ws)
    ∙ ap (λ n. n + feeds_in (spelling ws)) (spelled_feed w (spelling ws ++ after) fits.0) ∙ ap (λ n. feed w + n) (spelling_feeds ws after fits.1)

pub line-more : (prefix : List ℕ) (ws : List Written) (after : List ℕ) → AreFit ws after
    → line_after (prefix ++ spelling ws) ≡ line_after prefix + feeds ws
line-more prefix ws after fits =
    omega (arith, counted (prefix ++ spelling ws), counted prefix, feeds_in-append prefix (spelling ws), spelling_feeds ws after fits)
