-- A piece that fits at the beginning of a text is the one that is read there.
use Rattle.std.proofs.Common.{◌≡◌, ℕ, ◌<◌, Bool, true, false, Some, None, List, [], ◌∷◌, ◌++◌, length, refl, ap, ap₂, ◌∙◌, arith}
use Rattle.std.specs.Prelude.{◌||◌, ◌==◌}
use Rattle.bb_lemmas.proofs.Bits.{neither_left, neither_right}
use Rattle.bb_lex.specs.declared.class.Opening.TheVariants as opening
use Rattle.bb_lex.specs.declared.mark.Mark.{Mark}
use Rattle.bb_lex.specs.declared.mark.Mark.TheVariants.{LeftRound, Equals, Bang, Less, Greater, Amp, Bar, Caret, Tilde}
use Rattle.bb_lex.specs.declared.token.Kind.TheVariants as kinds
use Rattle.bb_lex.specs.Bytes.{is_white, begins_identifier, is_identifier_byte, is_word_byte, is_graphic, Each, BeginsNot, EndsBefore, past}
use Rattle.bb_lex.specs.Pieces.{IsIdentifier, kind_of_word, written}
use Rattle.bb_lex.specs.Words.{keyword_of}
use Rattle.bb_lex.specs.Inside.Found.{token_of}
use Rattle.bb_lex.specs.Inside.Pieces.{opening_of, opened_by, piece_at}
use Rattle.bb_lex.specs.Inside.Skips.{at_white, after_escaped}
use Rattle.bb_readback.specs.Inside.Written.{Written, EscapedName, SimpleName, ReservedWord, BitNumber, OneMark, Blank, Feed, spelled, kind_of, IsApart, Fits}
use Rattle.bb_readback.proofs.Classes.{cond_true, cond_false, past-each, run-each, first_not_white, first_is_byte, white_not_graphic, each_graphic}

-- an escaped name is read up to white space
at_white-here : (after : List ℕ) → EndsBefore is_white after → at_white after ≡ Some after
at_white-here [] ends = refl
at_white-here (b ∷ after) ends = cond_true (is_white b) (Some (b ∷ after)) None ends

not_graphic : (after : List ℕ) → EndsBefore is_white after → BeginsNot is_graphic after
not_graphic [] ends = tt
not_graphic (b ∷ after) ends = white_not_graphic b ends

escaped-prefix : (name after : List ℕ) → 0 < length name → Each is_graphic name → EndsBefore is_white after
    → after_escaped (name ++ after) ≡ Some after
escaped-prefix [] after some graphic ends = absurd (omega arith)
escaped-prefix (b ∷ name) after some graphic ends =
    cond_true (is_graphic b) (at_white (past is_graphic (name ++ after))) None graphic.0
    ∙ ap at_white (past-each is_graphic name after graphic.1 (not_graphic after ends)) ∙ at_white-here after ends

-- a simple identifier or a reserved word is read up to a byte that cannot go on with it
opening-identifier : (b : ℕ) → begins_identifier b ≡ true → opening_of b ≡ opening.Identifier
opening-identifier b begins =
    cond_false (is_white b) opening.White _ (first_not_white b begins) ∙ cond_true (begins_identifier b) opening.Identifier _ begins

word-prefix : (bytes after : List ℕ) → IsIdentifier bytes → BeginsNot is_identifier_byte after
    → piece_at (bytes ++ after) ≡ Some (Some (kind_of_word (keyword_of bytes)), after)
word-prefix [] after is ends = elim is [ ]
word-prefix (b ∷ bytes) after is ends =
    let each : Each is_identifier_byte (b ∷ bytes) = (first_is_byte b is.0, is.1) in
    ap (λ o. opened_by o b (bytes ++ after)) (opening-identifier b is.0)
    ∙ ap₂ (λ run rest. Some (Some (kind_of_word (keyword_of run)), rest))
    (run-each is_identifier_byte (b ∷ bytes) after each ends) (past-each is_identifier_byte (b ∷ bytes) after each ends)

-- a number of one bit
number-prefix : (b : Bool) (after : List ℕ) → BeginsNot is_word_byte after
    → piece_at (spelled (BitNumber b) ++ after) ≡ Some (Some kinds.Sized, after)
number-prefix true after ends = rw (run-each is_word_byte [] after tt ends, past-each is_word_byte [] after tt ends) refl
number-prefix false after ends = rw (run-each is_word_byte [] after tt ends, past-each is_word_byte [] after tt ends) refl

-- a mark that is apart
mark-prefix : (mark : Mark) (after : List ℕ) → IsApart mark after
    → piece_at (written mark ++ after) ≡ Some (Some (kinds.Mark mark), after)
mark-prefix LeftRound [] apart = refl
mark-prefix LeftRound (b ∷ after) apart = cond_false (b == 42) _ (Some (Some (kinds.Mark LeftRound), b ∷ after)) apart
mark-prefix Equals (b ∷ after) apart = rw apart refl
mark-prefix Bang (b ∷ after) apart = rw apart refl
mark-prefix Less (b ∷ after) apart = rw (neither_left (b == 60) (b == 61) apart, neither_right (b == 60) (b == 61) apart) refl
mark-prefix Greater (b ∷ after) apart = rw (neither_left (b == 61) (b == 62) apart, neither_right (b == 61) (b == 62) apart) refl
mark-prefix Amp (b ∷ after) apart = rw apart refl
mark-prefix Bar (b ∷ after) apart = rw apart refl
mark-prefix Caret (b ∷ after) apart = rw apart refl
mark-prefix Tilde (b ∷ after) apart =
    let others : (b == 94 || b == 124) ≡ false = neither_right (b == 38) (b == 94 || b == 124) apart in
    rw (neither_left (b == 38) (b == 94 || b == 124) apart, neither_left (b == 94) (b == 124) others, neither_right (b == 94) (b == 124) others) refl
mark-prefix mark [] apart = refl
mark-prefix mark (b ∷ after) apart = refl

pub prefix_read : (w : Written) (after : List ℕ) → Fits w after → piece_at (spelled w ++ after) ≡ Some (kind_of w, after)
prefix_read (EscapedName name) after fits =
    ap (token_of kinds.Name) (escaped-prefix name after fits.0.0 (each_graphic name fits.0.1) fits.1)
prefix_read (SimpleName bytes) after fits =
    word-prefix bytes after fits.0 fits.2 ∙ ap (λ o. Some (Some (kind_of_word o), after)) fits.1
prefix_read (ReservedWord bytes keyword) after fits =
    word-prefix bytes after fits.0 fits.2 ∙ ap (λ o. Some (Some (kind_of_word o), after)) fits.1
prefix_read (BitNumber b) after fits = number-prefix b after fits
prefix_read (OneMark mark) after fits = mark-prefix mark after fits
prefix_read Blank after fits = refl
prefix_read Feed after fits = refl
