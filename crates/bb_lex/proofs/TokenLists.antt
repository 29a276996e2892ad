-- The tokens among the pieces of a cut, with their places.
use Rattle.std.proofs.Common.{◌≡◌, ◌⊎◌, ℕ, zero, suc, ◌+◌, ◌-◌, ◌<◌, ◌≤◌, Option, Some, None, cond, List, [], ◌∷◌, ◌++◌, length, take, drop, sym, refl, ap, ◌∙◌, subst, arith, inl, inr, append_assoc, append-nil, length-append}
use Rattle.std.specs.Prelude.{◌==◌, count_by, All, slice_range, slice_index_or}
use Rattle.std.specs.List.{AllPairs, flat_map}
use Rattle.std.proofs.lemmas.List.{append_cancel_right, take_at, drop_at}
use Rattle.std.proofs.lemmas.List.Elements.{All-nil, All-cons, All-weaker}
use Rattle.std.proofs.lemmas.List.Kept.{AllPairs-cons}
use Rattle.std.proofs.lemmas.List.Sums.{sum_by-append, count_by-le-length}
use Rattle.bb_lex.specs.declared.token.Kind.{Kind}
use Rattle.bb_lex.specs.declared.token.Token.{Token}
use Rattle.bb_lex.specs.Pieces.{IsToken, Piece, IsPiece}
use Rattle.bb_lex.specs.Cut.{IsLongest, IsCutUpTo, IsCut, AreTokens, IsBadAfter, IsBadOn, token_at, with_token, tokens_after, line_after, IsTokenOf, IsBefore}
use Rattle.bb_lex.specs.Inside.Pieces.{piece_at, tokens_at}
use Rattle.bb_lex.proofs.Runs.{take-prefix}
use Rattle.bb_lex.proofs.PieceReading.{IsAtPrefix, piece_sound}
use Rattle.bb_lex.proofs.CutReading.{length-piece, longest_from_read, none_begins, none_read, cuts_agree, cut_to_stop}

-- the bytes of pieces, one after another
abbrev pub joined_pieces : List Piece → List ℕ
joined_pieces pieces = flat_map (λ (piece : Piece). piece.bytes) pieces

pub joined_cut : (pieces : List Piece) (text rest : List ℕ) → IsCutUpTo text pieces rest → text ≡ joined_pieces pieces ++ rest
joined_cut [] text rest cut = cut
joined_cut (p ∷ ps) text rest cut = cut.1 ∙ ap (λ l. p.bytes ++ l) (joined_cut ps cut.0 rest cut.3) ∙ sym (append_assoc p.bytes (joined_pieces ps) rest)

-- lines below lines
line_after-append : (prefix more : List ℕ) → line_after (prefix ++ more) ≡ line_after prefix + count_by (λ b. b == 10) more
line_after-append prefix more = omega (arith, sum_by-append (λ b. cond (b == 10) 1 0) prefix more)

-- one text has one list of tokens
pub one_list : (text : List ℕ) (a b : List Token) → AreTokens text a → AreTokens text b → a ≡ b
one_list text a b these those = these.are ∙ ap (tokens_after []) (cuts_agree these.pieces those.pieces text [] [] these.cut those.cut refl refl).0 ∙ sym those.are

pub one_cut : (text : List ℕ) (p q : List Piece) → IsCut text p → IsCut text q → p ≡ q
one_cut text p q cut other = (cuts_agree p q text [] [] cut other refl refl).0

-- where a text goes wrong it has no cut, and it goes wrong at one place
pub not_both : (text prefix : List ℕ) (pieces : List Piece) → IsCut text pieces → IsBadAfter text prefix → ⊥
not_both text prefix pieces cut bad =
    let e : [] ≡ bad.rest = (cuts_agree pieces bad.pieces text [] bad.rest cut bad.cut refl (none_read bad.rest bad.none)).1 in
    absurd (omega (arith, bad.more, ap length e))

pub one_place : (text a b : List ℕ) → IsBadAfter text a → IsBadAfter text b → a ≡ b
one_place text a b bad other =
    let e : bad.rest ≡ other.rest = (cuts_agree bad.pieces other.pieces text bad.rest other.rest bad.cut other.cut (none_read bad.rest bad.none) (none_read other.rest other.none)).1 in
    append_cancel_right a b other.rest (ap (λ l. a ++ l) (sym e) ∙ sym bad.splits ∙ other.splits)

stopped : (text rest : List ℕ) (pieces : List Piece) → IsCutUpTo text pieces rest → piece_at rest ≡ None → ((ps : List Piece) × IsCut text ps) ⊎ ((prefix : List ℕ) × IsBadAfter text prefix)
stopped text [] pieces cut stops = inl (pieces, cut)
stopped text (b ∷ rest) pieces cut stops =
    inr (
      joined_pieces pieces,
      record {
        pieces = pieces;
        rest = b ∷ rest;
        splits = joined_cut pieces text (b ∷ rest) cut;
        cut = cut;
        more = omega arith;
        none = none_begins (b ∷ rest) stops;
      },
    )

-- each text is cut or goes wrong
pub cut_or_bad : (text : List ℕ) → ((pieces : List Piece) × IsCut text pieces) ⊎ ((prefix : List ℕ) × IsBadAfter text prefix)
cut_or_bad text = let w = cut_to_stop text in stopped text w.rest w.pieces w.cut w.stops

-- the state of the reading: what is read so far is cut, and these are its tokens
pub record IsScanned (text : List ℕ) (tokens : List Token) (line : ℕ) (rest : List ℕ) : Type 0 where
  pub pieces : List Piece
  pub prefix : List ℕ
  pub splits : text ≡ prefix ++ rest
  pub cut : IsCutUpTo text pieces rest
  pub joined : prefix ≡ joined_pieces pieces
  pub are : tokens ≡ tokens_after [] pieces
  pub on : line ≡ line_after prefix

pub scanned_none : (text : List ℕ) → IsScanned text [] 1 text
scanned_none text = record { pieces = []; prefix = []; splits = refl; cut = refl; joined = refl; are = refl; on = refl }

with_token-append : (prefix bytes : List ℕ) (kind : Option Kind) (xs ys : List Token) → with_token prefix bytes kind (xs ++ ys) ≡ with_token prefix bytes kind xs ++ ys
with_token-append prefix bytes None xs ys = refl
with_token-append prefix bytes (Some kind) xs ys = refl

tokens_after-push : (prefix : List ℕ) (ps : List Piece) (p : Piece) → tokens_after prefix (ps ++ p ∷ []) ≡ tokens_after prefix ps ++ with_token (prefix ++ joined_pieces ps) p.bytes p.kind []
tokens_after-push prefix [] p = ap (λ l. with_token l p.bytes p.kind []) (sym (append-nil prefix))
tokens_after-push prefix (q ∷ ps) p =
    ap (with_token prefix q.bytes q.kind) (tokens_after-push (prefix ++ q.bytes) ps p ∙ ap (λ l. tokens_after (prefix ++ q.bytes) ps ++ with_token l p.bytes p.kind []) (append_assoc prefix q.bytes (joined_pieces ps)))
    ∙ with_token-append prefix q.bytes q.kind (tokens_after (prefix ++ q.bytes) ps) (with_token (prefix ++ joined_pieces (q ∷ ps)) p.bytes p.kind [])

cut_push : (ps : List Piece) (p : Piece) (text rest after : List ℕ) → IsCutUpTo text ps rest → rest ≡ p.bytes ++ after → IsLongest p after → IsCutUpTo text (ps ++ p ∷ []) after
cut_push [] p text rest after cut e long = (after, cut ∙ e, long, refl)
cut_push (q ∷ ps) p text rest after cut e long = (cut.0, cut.1, cut.2, cut_push ps p cut.0 rest after cut.3 e long)

joined_push : (ps : List Piece) (p : Piece) → joined_pieces (ps ++ p ∷ []) ≡ joined_pieces ps ++ p.bytes
joined_push [] p = append-nil p.bytes
joined_push (q ∷ ps) p = ap (λ l. q.bytes ++ l) (joined_push ps p) ∙ sym (append_assoc q.bytes (joined_pieces ps) p.bytes)

-- a piece joins what is read
pub scanned_more : (text : List ℕ) (tokens : List Token) (line : ℕ) (rest r : List ℕ) (kind : Option Kind) (w : IsAtPrefix rest kind r) → piece_at rest ≡ Some (kind, r) → (s : IsScanned text tokens line rest) → IsScanned text (tokens ++ with_token s.prefix w.prefix kind []) (line + count_by (λ b. b == 10) w.prefix) r
scanned_more text tokens line rest r kind w read s =
    let piece : Piece = record { kind = kind; bytes = w.prefix } in
    record {
      pieces = s.pieces ++ piece ∷ [];
      prefix = s.prefix ++ w.prefix;
      splits = s.splits ∙ ap (λ l. s.prefix ++ l) w.splits ∙ sym (append_assoc s.prefix w.prefix r);
      cut = cut_push s.pieces piece text rest r s.cut w.splits (longest_from_read rest r kind read w);
      joined = ap (λ l. l ++ w.prefix) s.joined ∙ sym (joined_push s.pieces piece);
      are = ap (λ l. l ++ with_token s.prefix w.prefix kind []) s.are ∙ ap (λ l. tokens_after [] s.pieces ++ with_token l w.prefix kind []) s.joined ∙ sym (tokens_after-push [] s.pieces piece);
      on = ap (λ n. n + count_by (λ b. b == 10) w.prefix) s.on ∙ sym (line_after-append s.prefix w.prefix);
    }

pub scanned_all : (text : List ℕ) (tokens : List Token) (line : ℕ) (rest : List ℕ) → rest ≡ [] → IsScanned text tokens line rest → AreTokens text tokens
scanned_all text tokens line rest e s = record { pieces = s.pieces; cut = subst (IsCutUpTo text s.pieces) e s.cut; are = s.are }

pub scanned_bad : (text : List ℕ) (tokens : List Token) (line : ℕ) (rest : List ℕ) → 0 < length rest → piece_at rest ≡ None → IsScanned text tokens line rest → IsBadOn text line
scanned_bad text tokens line rest more none s = record {
  prefix = s.prefix;
  bad = record { pieces = s.pieces; rest = rest; splits = s.splits; cut = s.cut; more = more; none = none_begins rest none };
  on = s.on;
}

-- each token of a text is one where it is
All-with_token : (P : Token → Type 0) (prefix bytes : List ℕ) (kind : Option Kind) (tokens : List Token) → ((k : Kind) → kind ≡ Some k → P (token_at prefix bytes k)) → All P tokens → All P (with_token prefix bytes kind tokens)
All-with_token P prefix bytes None tokens here all = all
All-with_token P prefix bytes (Some k) tokens here all = All-cons P (token_at prefix bytes k) tokens (here k refl) all

token_here : (prefix bytes after : List ℕ) (k : Kind) → IsToken k bytes after → IsTokenOf (token_at prefix bytes k) (prefix ++ (bytes ++ after))
token_here prefix bytes after k is =
    let ends : length prefix + length bytes ≡ length (prefix ++ bytes) = sym (length-append prefix bytes) in
    let whole : prefix ++ (bytes ++ after) ≡ (prefix ++ bytes) ++ after = sym (append_assoc prefix bytes after) in
    let back : drop (length prefix + length bytes) (prefix ++ (bytes ++ after)) ≡ after = ap (λ l. drop (length prefix + length bytes) l) whole ∙ drop_at (prefix ++ bytes) after (length prefix + length bytes) (sym ends) in
    let n : length prefix + length bytes - length prefix ≡ length bytes = omega arith in
    let here : slice_range (prefix ++ (bytes ++ after)) (length prefix) (length prefix + length bytes) ≡ bytes =
    ap (λ l. take (length prefix + length bytes - length prefix) l) (drop_at prefix (bytes ++ after) (length prefix) refl) ∙ ap (λ i. take i (bytes ++ after)) n ∙ take_at bytes after (length bytes) refl in
    record {
      in_order = omega arith;
      within = omega (arith, length-append prefix (bytes ++ after), length-append bytes after);
      is = subst (λ l. IsToken k l (drop (length prefix + length bytes) (prefix ++ (bytes ++ after)))) (sym here) (subst (IsToken k bytes) (sym back) is);
    }

token_by : (kind : Option Kind) (bytes after : List ℕ) (k : Kind) → kind ≡ Some k → IsPiece (record { kind = kind; bytes = bytes }) after → IsToken k bytes after
token_by kind bytes after k e is = subst (λ o. IsPiece (record { kind = o; bytes = bytes }) after) e is

tokens_here : (prefix : List ℕ) (pieces : List Piece) (rest : List ℕ) → IsCutUpTo rest pieces [] → All (λ t. IsTokenOf t (prefix ++ rest)) (tokens_after prefix pieces)
tokens_here prefix [] rest cut = All-nil (λ t. IsTokenOf t (prefix ++ rest))
tokens_here prefix (p ∷ ps) rest cut =
    let whole : prefix ++ rest ≡ prefix ++ (p.bytes ++ cut.0) = ap (λ l. prefix ++ l) cut.1 in
    let later : All (λ t. IsTokenOf t ((prefix ++ p.bytes) ++ cut.0)) (tokens_after (prefix ++ p.bytes) ps) = tokens_here (prefix ++ p.bytes) ps cut.0 cut.3 in
    All-with_token (λ t. IsTokenOf t (prefix ++ rest)) prefix p.bytes p.kind (tokens_after (prefix ++ p.bytes) ps)
    (λ k e. subst (λ l. IsTokenOf (token_at prefix p.bytes k) l) (sym whole) (token_here prefix p.bytes cut.0 k (token_by p.kind p.bytes cut.0 k e cut.2.is)))
    (subst (λ l. All (λ t. IsTokenOf t l) (tokens_after (prefix ++ p.bytes) ps)) (append_assoc prefix p.bytes cut.0 ∙ sym whole) later)

pub tokens_of_text : (text : List ℕ) (tokens : List Token) → AreTokens text tokens → All (λ t. IsTokenOf t text) tokens
tokens_of_text text tokens are = subst (All (λ t. IsTokenOf t text)) (sym are.are) (tokens_here [] are.pieces text are.cut)

-- later tokens begin no earlier, and on no earlier line
abbrev IsAfter : ℕ → ℕ → Token → Type 0
IsAfter place line t = (place ≤ t.start) × (line ≤ t.line)

after_prefix : (prefix : List ℕ) (pieces : List Piece) → All (IsAfter (length prefix) (line_after prefix)) (tokens_after prefix pieces)
after_prefix prefix [] = All-nil (IsAfter (length prefix) (line_after prefix))
after_prefix prefix (p ∷ ps) =
    All-with_token (IsAfter (length prefix) (line_after prefix)) prefix p.bytes p.kind (tokens_after (prefix ++ p.bytes) ps)
    (λ k e. (omega arith, omega arith))
    (All-weaker (IsAfter (length (prefix ++ p.bytes)) (line_after (prefix ++ p.bytes))) (IsAfter (length prefix) (line_after prefix))
    (λ t later. (omega (arith, later.0, length-append prefix p.bytes), omega (arith, later.1, line_after-append prefix p.bytes)))
    (tokens_after (prefix ++ p.bytes) ps) (after_prefix (prefix ++ p.bytes) ps))

order_with : (prefix bytes : List ℕ) (kind : Option Kind) (tokens : List Token) → All (IsAfter (length (prefix ++ bytes)) (line_after (prefix ++ bytes))) tokens → AllPairs IsBefore tokens → AllPairs IsBefore (with_token prefix bytes kind tokens)
order_with prefix bytes None tokens later order = order
order_with prefix bytes (Some k) tokens later order =
    AllPairs-cons IsBefore (token_at prefix bytes k) tokens
    (All-weaker (IsAfter (length (prefix ++ bytes)) (line_after (prefix ++ bytes))) (IsBefore (token_at prefix bytes k))
    (λ t is. (omega (arith, is.0, length-append prefix bytes), omega (arith, is.1, line_after-append prefix bytes)))
    tokens later)
    order

order_after : (prefix : List ℕ) (pieces : List Piece) → AllPairs IsBefore (tokens_after prefix pieces)
order_after prefix [] = λ i j d less within. absurd (omega (arith, within))
order_after prefix (p ∷ ps) = order_with prefix p.bytes p.kind (tokens_after (prefix ++ p.bytes) ps) (after_prefix (prefix ++ p.bytes) ps) (order_after (prefix ++ p.bytes) ps)

pub tokens_in_order : (text : List ℕ) (tokens : List Token) → AreTokens text tokens → AllPairs IsBefore tokens
tokens_in_order text tokens are = subst (AllPairs IsBefore) (sym are.are) (order_after [] are.pieces)

-- what one piece more does to the reading, in the numbers of the code
pub record IsStep (text : List ℕ) (tokens : List Token) (line : ℕ) (rest r : List ℕ) (kind : Option Kind) : Type 0 where
  pub within : length rest ≤ length text
  pub less : length r < length rest
  pub lines : line + length rest ≤ length text + 1
  pub newlines : line + count_by (λ b. b == 10) (take (length rest - length r) rest) ≤ length text + 1
  pub next : IsScanned text (tokens ++ tokens_at kind (length text - length rest) (length text - length rest + (length rest - length r)) line) (line + count_by (λ b. b == 10) (take (length rest - length r) rest)) r

with_token-at : (prefix bytes : List ℕ) (kind : Option Kind) (start stop line : ℕ) → length prefix ≡ start → length prefix + length bytes ≡ stop → line_after prefix ≡ line → with_token prefix bytes kind [] ≡ tokens_at kind start stop line
with_token-at prefix bytes None start stop line s e l = refl
with_token-at prefix bytes (Some kind) start stop line s e l =
    let at : ℕ → ℕ → ℕ → List Token = λ x y z. record { kind = kind; start = x; «end» = y; line = z } ∷ [] in
    ap (λ x. at x (length prefix + length bytes) (line_after prefix)) s ∙ ap (λ y. at start y (line_after prefix)) e ∙ ap (λ z. at start stop z) l

pub scan_step : (text : List ℕ) (tokens : List Token) (line : ℕ) (rest r : List ℕ) (kind : Option Kind) → piece_at rest ≡ Some (kind, r) → IsScanned text tokens line rest → IsStep text tokens line rest r kind
scan_step text tokens line rest r kind read s =
    let w = piece_sound rest r kind read in
    let some : 0 < length w.prefix = length-piece (record { kind = kind; bytes = w.prefix }) r w.is in
    let whole : length text ≡ length s.prefix + length rest = ap length s.splits ∙ length-append s.prefix rest in
    let part : length rest ≡ length w.prefix + length r = ap length w.splits ∙ length-append w.prefix r in
    let here : take (length rest - length r) rest ≡ w.prefix = take-prefix rest w.prefix r (sym w.splits) in
    let few : count_by (λ b. b == 10) s.prefix ≤ length s.prefix = count_by-le-length (λ b. b == 10) s.prefix in
    let fewer : count_by (λ b. b == 10) w.prefix ≤ length w.prefix = count_by-le-length (λ b. b == 10) w.prefix in
    let counted : count_by (λ b. b == 10) (take (length rest - length r) rest) ≡ count_by (λ b. b == 10) w.prefix = ap (count_by (λ b. b == 10)) here in
    let start : length s.prefix ≡ length text - length rest = omega arith in
    let stop : length s.prefix + length w.prefix ≡ length text - length rest + (length rest - length r) = omega arith in
    record {
      within = omega arith;
      less = omega arith;
      lines = omega (arith, s.on);
      newlines = omega (arith, s.on);
      next = subst (λ l. IsScanned text (tokens ++ l) (line + count_by (λ b. b == 10) (take (length rest - length r) rest)) r) (with_token-at s.prefix w.prefix kind (length text - length rest) (length text - length rest + (length rest - length r)) line start stop (sym s.on))
          (subst (λ n. IsScanned text (tokens ++ with_token s.prefix w.prefix kind []) (line + n) r) (sym counted) (scanned_more text tokens line rest r kind w read s));
    }

-- no more tokens than bytes
one_more : (prefix bytes : List ℕ) (kind : Option Kind) (tokens : List Token) → length (with_token prefix bytes kind tokens) ≤ 1 + length tokens
one_more prefix bytes None tokens = omega arith
one_more prefix bytes (Some kind) tokens = omega arith

pieces_take : (text prefix : List ℕ) (pieces : List Piece) (rest : List ℕ) → IsCutUpTo text pieces rest → length (tokens_after prefix pieces) ≤ length text
pieces_take text prefix [] rest p = omega arith
pieces_take text prefix (piece ∷ pieces) rest p =
    omega (
      arith,
      one_more prefix piece.bytes piece.kind (tokens_after (prefix ++ piece.bytes) pieces),
      pieces_take p.0 (prefix ++ piece.bytes) pieces rest p.3,
      length-piece piece p.0 p.2.is,
      ap length p.1 ∙ length-append piece.bytes p.0,
    )

pub tokens_short : (text : List ℕ) (tokens : List Token) → AreTokens text tokens → length tokens ≤ length text
tokens_short text tokens h = omega (arith, ap length h.are, pieces_take text [] h.pieces [] h.cut)

-- each token ends after its place in the list, counted from a number
EndAfter : ℕ → List Token → Type 0
EndAfter n [] = Unit {0}
EndAfter n (t ∷ ts) = (n < t.«end») × EndAfter (n + 1) ts

EndAfter-less : (n m : ℕ) (ts : List Token) → n ≤ m → EndAfter m ts → EndAfter n ts
unfolding EndAfter
EndAfter-less n m [] le h = tt
EndAfter-less n m (t ∷ ts) le h = (omega (arith, h.0), EndAfter-less (n + 1) (m + 1) ts (omega arith) h.1)

piece_ends : (prefix : List ℕ) (bytes : List ℕ) (o : Option Kind) (ts : List Token) → 0 < length bytes → EndAfter (length (prefix ++ bytes)) ts → EndAfter (length prefix) (with_token prefix bytes o ts)
unfolding EndAfter
piece_ends prefix bytes None ts more h = EndAfter-less (length prefix) (length (prefix ++ bytes)) ts (omega (arith, length-append prefix bytes)) h
piece_ends prefix bytes (Some kind) ts more h =
    (omega arith, EndAfter-less (length prefix + 1) (length (prefix ++ bytes)) ts (omega (arith, length-append prefix bytes)) h)

pieces_end : (text prefix : List ℕ) (pieces : List Piece) (rest : List ℕ) → IsCutUpTo text pieces rest → EndAfter (length prefix) (tokens_after prefix pieces)
unfolding EndAfter
pieces_end text prefix [] rest h = tt
pieces_end text prefix (piece ∷ pieces) rest h =
    piece_ends prefix piece.bytes piece.kind (tokens_after (prefix ++ piece.bytes) pieces) (length-piece piece h.0 h.2.is) (pieces_end h.0 (prefix ++ piece.bytes) pieces rest h.3)

end_at : (n : ℕ) (ts : List Token) (i : ℕ) (d : Token) → EndAfter n ts → i < length ts → n + i < (slice_index_or ts i d).«end»
unfolding EndAfter
end_at n [] i d h less = absurd (omega (arith, less))
end_at n (t ∷ ts) zero d h less = omega (arith, h.0)
end_at n (t ∷ ts) (suc i) d h less = omega (arith, end_at (n + 1) ts i d h.1 (omega (arith, less)))

pub end_past_place : (text : List ℕ) (tokens : List Token) → AreTokens text tokens → (i : ℕ) (d : Token) → i < length tokens → i < (slice_index_or tokens i d).«end»
end_past_place text tokens h i d less = omega (arith, end_at 0 tokens i d (subst (λ (z : List Token). EndAfter 0 z) (sym h.are) (pieces_end text [] h.pieces [] h.cut)) less)
