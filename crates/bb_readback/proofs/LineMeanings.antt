-- The tokens of a text that is written piece by piece have the symbols of the pieces.
use Rattle.std.proofs.Common.{◌≡◌, ℕ, ◌+◌, Bool, true, false, Option, Some, None, List, [], ◌∷◌, ◌++◌, length, drop, map, refl, ap, sym, ◌∙◌, subst, arith, append_assoc, append-nil}
use Rattle.std.specs.Prelude.{◌==◌}
use Rattle.bb_lex.specs.declared.token.Kind.{Kind}
use Rattle.bb_lex.specs.declared.token.Kind.TheVariants as kinds
use Rattle.bb_lex.specs.declared.token.Token.{Token}
use Rattle.bb_lex.specs.Bytes.{is_word_byte, BeginsNot}
use Rattle.bb_lex.specs.Pieces.{IsIdentifier, IsSized}
use Rattle.bb_lex.specs.Cut.{token_at, with_token, tokens_after, bytes_of}
use Rattle.bb_lex.specs.Meaning.{without_backslash, MeansBits}
use Rattle.bb_parse.specs.Symbols.{Symbol, AreSymbols}
use Rattle.bb_readback.specs.Inside.Meanings.{symbols_of, meaning}
use Rattle.bb_readback.specs.Inside.Written.{Written, EscapedName, SimpleName, ReservedWord, BitNumber, OneMark, Blank, Feed, spelled, spelling, kind_of, piece_of, Fits, AreFit}
use Rattle.bb_readback.proofs.Classes.{cond_false, first_no_backslash}
use Rattle.bb_readback.proofs.Cuts.{between}

-- the bytes of a token, and what follows it
bytes_here : (text prefix bytes after : List ℕ) (kind : Kind) → text ≡ prefix ++ (bytes ++ after)
    → bytes_of (token_at prefix bytes kind) text ≡ bytes
bytes_here text prefix bytes after kind is = ap (λ t. bytes_of (token_at prefix bytes kind) t) is ∙ (between prefix bytes after).0

after_here : (text prefix bytes after : List ℕ) → text ≡ prefix ++ (bytes ++ after)
    → drop (length prefix + length bytes) text ≡ after
after_here text prefix bytes after is = ap (drop (length prefix + length bytes)) is ∙ (between prefix bytes after).1

no_backslash : (bytes : List ℕ) → IsIdentifier bytes → without_backslash bytes ≡ bytes
no_backslash [] is = elim is [ ]
no_backslash (b ∷ bytes) is = cond_false (b == 92) bytes (b ∷ bytes) (first_no_backslash b is.0)

-- a number of one bit by its parts
sized_one : (bytes after : List ℕ) (b : Bool) → bytes ≡ spelled (BitNumber b) → BeginsNot is_word_byte after → IsSized bytes after
sized_one bytes after true is ends = record {
  size = 49 ∷ [];
  gap = [];
  letter = 98;
  space = [];
  digits = 49 ∷ [];
  made_of = is;
  size_run = (refl, tt);
  gap_white = tt;
  base = omega arith;
  space_white = tt;
  digit_run = (refl, tt);
  whole = ends;
  some_bits = omega arith;
  at_most_128 = omega arith;
  decimal_fits = λ e. absurd (omega (arith, e));
}
sized_one bytes after false is ends = record {
  size = 49 ∷ [];
  gap = [];
  letter = 98;
  space = [];
  digits = 48 ∷ [];
  made_of = is;
  size_run = (refl, tt);
  gap_white = tt;
  base = omega arith;
  space_white = tt;
  digit_run = (refl, tt);
  whole = ends;
  some_bits = omega arith;
  at_most_128 = omega arith;
  decimal_fits = λ e. absurd (omega (arith, e));
}

reports_one : (text prefix after : List ℕ) (b : Bool) → text ≡ prefix ++ (spelled (BitNumber b) ++ after)
    → BeginsNot is_word_byte after → MeansBits (token_at prefix (spelled (BitNumber b)) kinds.Sized) text (b ∷ [])
unfolding sized_one
reports_one text prefix after true is ends = record {
  is =
      sized_one _ _ true (bytes_here text prefix (spelled (BitNumber true)) after kinds.Sized is)
      (subst (BeginsNot is_word_byte) (sym (after_here text prefix (spelled (BitNumber true)) after is)) ends);
  are = refl;
}
reports_one text prefix after false is ends = record {
  is =
      sized_one _ _ false (bytes_here text prefix (spelled (BitNumber false)) after kinds.Sized is)
      (subst (BeginsNot is_word_byte) (sym (after_here text prefix (spelled (BitNumber false)) after is)) ends);
  are = refl;
}

with_symbol : (text prefix : List ℕ) (w : Written) (after : List ℕ) (tokens : List Token) (symbols : List Symbol)
    → text ≡ prefix ++ (spelled w ++ after) → Fits w after
    → AreSymbols text tokens symbols → AreSymbols text (with_token prefix (spelled w) (kind_of w) tokens) (symbols_of w ++ symbols)
with_symbol text prefix (EscapedName name) after tokens symbols is fits rest =
    ((refl, sym (ap without_backslash (bytes_here text prefix (92 ∷ name) after kinds.Name is))), rest)
with_symbol text prefix (SimpleName bytes) after tokens symbols is fits rest =
    ((refl, sym (ap without_backslash (bytes_here text prefix bytes after kinds.Name is) ∙ no_backslash bytes fits.0)), rest)
with_symbol text prefix (ReservedWord bytes keyword) after tokens symbols is fits rest = (refl, rest)
with_symbol text prefix (BitNumber b) after tokens symbols is fits rest = ((refl, reports_one text prefix after b is fits), rest)
with_symbol text prefix (OneMark mark) after tokens symbols is fits rest = (refl, rest)
with_symbol text prefix Blank after tokens symbols is fits rest = rest
with_symbol text prefix Feed after tokens symbols is fits rest = rest

pub written_symbols : (text prefix : List ℕ) (ws : List Written) (after : List ℕ) → text ≡ prefix ++ (spelling ws ++ after)
    → AreFit ws after
    → AreSymbols text (tokens_after prefix (map piece_of ws)) (meaning ws)
written_symbols text prefix [] after is fits = tt
written_symbols text prefix (w ∷ ws) after is fits =
    let here : text ≡ prefix ++ (spelled w ++ (spelling ws ++ after)) = is ∙ ap (λ l. prefix ++ l) (append_assoc (spelled w) (spelling ws) after) in
    let next : text ≡ (prefix ++ spelled w) ++ (spelling ws ++ after) = here ∙ sym (append_assoc prefix (spelled w) (spelling ws ++ after)) in
    with_symbol text prefix w (spelling ws ++ after) (tokens_after (prefix ++ spelled w) (map piece_of ws)) (meaning ws) here fits.0
    (written_symbols text (prefix ++ spelled w) ws after next fits.1)

-- tokens of pieces one after another
with_more : (prefix bytes : List ℕ) (kind : Option Kind) (xs ys : List Token)
    → with_token prefix bytes kind (xs ++ ys) ≡ with_token prefix bytes kind xs ++ ys
with_more prefix bytes None xs ys = refl
with_more prefix bytes (Some kind) xs ys = refl

pub tokens-append : (prefix : List ℕ) (vs ws : List Written)
    → tokens_after prefix (map piece_of (vs ++ ws)) ≡ tokens_after prefix (map piece_of vs) ++ tokens_after (prefix ++ spelling vs) (map piece_of ws)
tokens-append prefix [] ws = ap (λ l. tokens_after l (map piece_of ws)) (sym (append-nil prefix))
tokens-append prefix (v ∷ vs) ws =
    ap (with_token prefix (spelled v) (kind_of v)) (tokens-append (prefix ++ spelled v) vs ws)
    ∙ with_more prefix (spelled v) (kind_of v) (tokens_after (prefix ++ spelled v) (map piece_of vs))
    (tokens_after ((prefix ++ spelled v) ++ spelling vs) (map piece_of ws))
    ∙ ap (λ l. tokens_after prefix (map piece_of (v ∷ vs)) ++ tokens_after l (map piece_of ws)) (append_assoc prefix (spelled v) (spelling vs))
