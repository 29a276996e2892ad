-- The cut of a text: each text is cut up to one place where no piece begins, and in one way.
use Rattle.std.proofs.Common.{◌≡◌, ℕ, zero, suc, ◌<◌, ◌≤◌, Option, Some, None, List, [], ◌∷◌, ◌++◌, length, sym, refl, ap, ◌∙◌, subst, arith, length-append}
use Rattle.std.proofs.lemmas.List.{append_cancel_right, nil_from_length}
use Rattle.bb_lex.specs.declared.token.Kind.{Kind}
use Rattle.bb_lex.specs.declared.mark.Mark.{Mark}
use Rattle.bb_lex.specs.declared.mark.Mark.TheVariants.{LeftRound}
use Rattle.bb_lex.specs.Skips.{IsSkip}
use Rattle.bb_lex.specs.Skips.IsSkip.{White, LineComment, BlockComment, Attribute, Directive}
use Rattle.bb_lex.specs.Pieces.{written, IsIdentifier, IsDecimalRun, IsToken, Piece, IsPiece}
use Rattle.bb_lex.specs.Pieces.IsToken.{Identifier, Escaped, SizedNumber, PlainNumber, Symbol}
use Rattle.bb_lex.specs.Cut.{IsLongest, IsCutUpTo}
use Rattle.bb_lex.specs.Inside.Pieces.{piece_at}
use Rattle.bb_lex.proofs.Choices.{some_pair}
use Rattle.bb_lex.proofs.PieceReading.{IsAtPrefix, piece_sound, piece_complete}

-- a piece has at least one byte
length-made : (bytes made : List ℕ) → bytes ≡ made → 0 < length made → 0 < length bytes
length-made bytes made e some = omega (arith, ap length e)

length-skip : (bytes after : List ℕ) → IsSkip bytes after → 0 < length bytes
length-skip bytes after (White b e white) = length-made bytes (b ∷ []) e (omega arith)
length-skip bytes after (LineComment is) = length-made bytes (47 ∷ 47 ∷ is.body) is.opens (omega arith)
length-skip bytes after (BlockComment is) = length-made bytes (47 ∷ 42 ∷ is.body) is.opens (omega arith)
length-skip bytes after (Attribute is) = length-made bytes (40 ∷ 42 ∷ is.body) is.opens (omega arith)
length-skip bytes after (Directive is) = length-made bytes (96 ∷ (is.word ++ is.line)) is.opens (omega arith)

length-decimal : (run : List ℕ) → IsDecimalRun run → 0 < length run
length-decimal [] is = absurd is
length-decimal (b ∷ run) is = omega arith

length-identifier : (bytes : List ℕ) → IsIdentifier bytes → 0 < length bytes
length-identifier [] is = absurd is
length-identifier (b ∷ bytes) is = omega arith

length-written : (mark : Mark) → 0 < length (written mark)
length-written LeftRound = omega arith
length-written m = omega arith

length-token : (kind : Kind) (bytes after : List ℕ) → IsToken kind bytes after → 0 < length bytes
length-token kind bytes after (Identifier is k) = length-identifier bytes is
length-token kind bytes after (Escaped is k) = length-made bytes (92 ∷ is.name) is.opens (omega arith)
length-token kind bytes after (SizedNumber is k) = omega (arith, ap length is.made_of, length-append is.size (is.gap ++ 39 ∷ is.letter ∷ (is.space ++ is.digits)), length-decimal is.size is.size_run)
length-token kind bytes after (PlainNumber is k) = length-decimal bytes is.run
length-token kind bytes after (Symbol mark e open_ k) = length-made bytes (written mark) e (length-written mark)

length-by : (kind : Option Kind) (bytes after : List ℕ) → IsPiece (record { kind = kind; bytes = bytes }) after → 0 < length bytes
length-by None bytes after is = length-skip bytes after is
length-by (Some kind) bytes after is = length-token kind bytes after is

pub length-piece : (piece : Piece) (after : List ℕ) → IsPiece piece after → 0 < length piece.bytes
length-piece piece after is = length-by piece.kind piece.bytes after is

-- the piece that is read is the longest
pub longest_from_read : (text r : List ℕ) (kind : Option Kind) → piece_at text ≡ Some (kind, r) → (w : IsAtPrefix text kind r) → IsLongest (record { kind = kind; bytes = w.prefix }) r
longest_from_read text r kind read w = record {
  is = w.is;
  longest = λ other rest e is.
      let c = piece_complete other rest is in
      let one : ◌≡◌ {A = Option (Option Kind × List ℕ)} (Some (kind, r)) (Some (c.found, c.rest)) = sym read ∙ ap piece_at (w.splits ∙ e) ∙ c.read in
      let both = some_pair kind c.found r c.rest one in
      omega (arith, ap length e, length-append w.prefix r, length-append other.bytes rest, ap length c.splits, length-append c.more c.rest, ap length both.1);
}

-- and the longest piece is read
pub read_from_longest : (piece : Piece) (after : List ℕ) → IsLongest piece after → piece_at (piece.bytes ++ after) ≡ Some (piece.kind, after)
read_from_longest piece after long =
    let c = piece_complete piece after long.is in
    let w = piece_sound (piece.bytes ++ after) c.rest c.found c.read in
    let short : length w.prefix ≤ length piece.bytes = long.longest (record { kind = c.found; bytes = w.prefix }) c.rest w.splits w.is in
    let none : c.more ≡ [] = nil_from_length c.more (omega (arith, ap length w.splits, length-append piece.bytes after, length-append w.prefix c.rest, ap length c.splits, length-append c.more c.rest)) in
    let rest : after ≡ c.rest = c.splits ∙ ap (λ l. l ++ c.rest) none in
    c.read ∙ ap (λ k. Some (k, c.rest)) (c.same none) ∙ ap (λ l. Some (piece.kind, l)) (sym rest)

same_piece : (p q : Piece) → p.kind ≡ q.kind → p.bytes ≡ q.bytes → p ≡ q
same_piece p q k b = ap (λ (o : Option Kind). let x : Piece = record { kind = o; bytes = p.bytes } in x) k ∙ ap (λ (l : List ℕ). let x : Piece = record { kind = q.kind; bytes = l } in x) b

-- where no piece is read, none begins; and where none begins, none is read
pub none_begins : (rest : List ℕ) → piece_at rest ≡ None → (piece : Piece) (after : List ℕ) → rest ≡ piece.bytes ++ after → IsPiece piece after → ⊥
none_begins rest none piece after e is =
    let c = piece_complete piece after is in
    let no : ◌≡◌ {A = Option (Option Kind × List ℕ)} None (Some (c.found, c.rest)) = sym none ∙ ap piece_at e ∙ c.read in cc

none_by : (rest : List ℕ) (o : Option (Option Kind × List ℕ)) → piece_at rest ≡ o → ((piece : Piece) (after : List ℕ) → rest ≡ piece.bytes ++ after → IsPiece piece after → ⊥) → piece_at rest ≡ None
none_by rest None read none = read
none_by rest (Some found) read none =
    let w = piece_sound rest found.1 found.0 read in
    absurd (none (record { kind = found.0; bytes = w.prefix }) found.1 w.splits w.is)

pub none_read : (rest : List ℕ) → ((piece : Piece) (after : List ℕ) → rest ≡ piece.bytes ++ after → IsPiece piece after → ⊥) → piece_at rest ≡ None
none_read rest none = none_by rest (piece_at rest) refl none

-- two cuts that stop where no piece begins are one
pub cuts_agree : (ps qs : List Piece) (text r s : List ℕ) → IsCutUpTo text ps r → IsCutUpTo text qs s → piece_at r ≡ None → piece_at s ≡ None → (ps ≡ qs) × (r ≡ s)
cuts_agree [] [] text r s cut other stop ends = (refl, sym cut ∙ other)
cuts_agree [] (q ∷ qs) text r s cut other stop ends =
    absurd (let no : ◌≡◌ {A = Option (Option Kind × List ℕ)} None (Some (q.kind, other.0)) = sym stop ∙ ap piece_at (sym cut ∙ other.1) ∙ read_from_longest q other.0 other.2 in cc)
cuts_agree (p ∷ ps) [] text r s cut other stop ends =
    absurd (let no : ◌≡◌ {A = Option (Option Kind × List ℕ)} None (Some (p.kind, cut.0)) = sym ends ∙ ap piece_at (sym other ∙ cut.1) ∙ read_from_longest p cut.0 cut.2 in cc)
cuts_agree (p ∷ ps) (q ∷ qs) text r s cut other stop ends =
    let one : ◌≡◌ {A = Option (Option Kind × List ℕ)} (Some (p.kind, cut.0)) (Some (q.kind, other.0)) =
    sym (read_from_longest p cut.0 cut.2) ∙ ap piece_at (sym cut.1 ∙ other.1) ∙ read_from_longest q other.0 other.2 in
    let both = some_pair p.kind q.kind cut.0 other.0 one in
    let bytes : p.bytes ≡ q.bytes = append_cancel_right p.bytes q.bytes other.0 (ap (λ l. p.bytes ++ l) (sym both.1) ∙ sym cut.1 ∙ other.1) in
    let w = cuts_agree ps qs other.0 r s (subst (λ l. IsCutUpTo l ps r) both.1 cut.3) other.3 stop ends in
    (ap (λ x. x ∷ ps) (same_piece p q both.0 bytes) ∙ ap (λ l. q ∷ l) w.0, w.1)

-- a text is cut up to where no piece begins
pub record IsCutToStop (text : List ℕ) : Type 0 where
  pub pieces : List Piece
  pub rest : List ℕ
  pub cut : IsCutUpTo text pieces rest
  pub stops : piece_at rest ≡ None

cut_on : (text : List ℕ) (o : Option (Option Kind × List ℕ)) → piece_at text ≡ o → ((r : List ℕ) → length r < length text → IsCutToStop r) → IsCutToStop text
cut_on text None read more = record { pieces = []; rest = text; cut = refl; stops = read }
cut_on text (Some found) read more =
    let w = piece_sound text found.1 found.0 read in
    let piece : Piece = record { kind = found.0; bytes = w.prefix } in
    let u = more found.1 (omega (arith, ap length w.splits, length-append w.prefix found.1, length-piece piece found.1 w.is)) in
    record {
      pieces = piece ∷ u.pieces;
      rest = u.rest;
      cut = (found.1, w.splits, longest_from_read text found.1 found.0 read w, u.cut);
      stops = u.stops;
    }

cut_within : (n : ℕ) (text : List ℕ) → length text < n → IsCutToStop text
cut_within zero text short = absurd (omega arith)
cut_within (suc n) text short = cut_on text (piece_at text) refl (λ r less. cut_within n r (omega arith))

pub cut_to_stop : (text : List ℕ) → IsCutToStop text
cut_to_stop text = cut_within (suc (length text)) text (omega arith)
