-- The piece that is read at a place is a piece by the rules, and no longer one begins there.
use Rattle.std.proofs.Common.{◌≡◌, ◌≢◌, ℕ, true, false, cond, Option, Some, None, List, [], ◌∷◌, ◌++◌, sym, refl, ap, ◌∙◌, subst, arith, ⊎_elim, append_assoc, append-nil, eqb-true}
use Rattle.std.specs.Prelude.{◌==◌}
use Rattle.std.specs.Char.{is_ascii_digit}
use Rattle.std.proofs.lemmas.Bool.Decides.{nat_tests}
use Rattle.bb_lex.specs.declared.token.Kind.{Kind}
use Rattle.bb_lex.specs.declared.token.Kind.TheVariants.{Name, Sized, Plain, Mark as MarkKind}
use Rattle.bb_lex.specs.declared.mark.Mark.{Mark}
use Rattle.bb_lex.specs.declared.mark.Mark.TheVariants.{LeftRound}
use Rattle.bb_lex.specs.declared.class.Opening.TheVariants as opening
use Rattle.bb_lex.specs.Bytes.{is_white, is_in_line, begins_identifier, is_identifier_byte, Each, BeginsNot, past}
use Rattle.bb_lex.specs.Words.{keyword_of}
use Rattle.bb_lex.specs.Skips.{IsDirective, IsSkip}
use Rattle.bb_lex.specs.Skips.IsSkip.{White, LineComment, BlockComment, Attribute, Directive}
use Rattle.bb_lex.specs.Pieces.{written, IsIdentifier, IsDecimalRun, kind_of_word, IsSized, IsEscaped, IsToken, Piece, IsPiece}
use Rattle.bb_lex.specs.Pieces.IsToken.{Identifier, Escaped, SizedNumber, PlainNumber, Symbol}
use Rattle.bb_lex.specs.Inside.Runs.{run_of}
use Rattle.bb_lex.specs.Inside.Found.{skipped, token_of}
use Rattle.bb_lex.specs.Inside.Numbers.{number_at}
use Rattle.bb_lex.specs.Inside.Skips.{after_pair, after_comment, after_attribute, after_directive, after_escaped}
use Rattle.bb_lex.specs.Inside.Marks.{round_at, short_mark, long_mark, mark_before, longer_mark}
use Rattle.bb_lex.specs.Inside.Pieces.{opening_of, opened_by, piece_at}
use Rattle.bb_lex.proofs.Choices.{cases_of, chosen, cond_true, cond_false, some_pair}
use Rattle.bb_lex.proofs.Runs.{run-past, each_of_run, past-each, run-each}
use Rattle.bb_lex.proofs.Comments.{pair_sound, pair_complete, attribute_sound, attribute_complete}
use Rattle.bb_lex.proofs.Identifiers.{directive_sound, directive_complete, escaped_sound, escaped_complete, identifier_sound, each_of_identifier}
use Rattle.bb_lex.proofs.NumberReading.{IsNumber, token_sound, number_sound, plain_complete, sized_complete}
use Rattle.bb_lex.proofs.Marks.{mark_sound}

-- what a byte opens, and why
data Opens (b : ℕ) : Type 0 where
  OpensWhite : opening_of b ≡ opening.White → is_white b ≡ true → Opens b
  OpensIdentifier : opening_of b ≡ opening.Identifier → begins_identifier b ≡ true → Opens b
  OpensNumber : opening_of b ≡ opening.Number → is_ascii_digit b ≡ true → Opens b
  OpensComment : opening_of b ≡ opening.Comment → b ≡ 47 → Opens b
  OpensRound : opening_of b ≡ opening.Round → b ≡ 40 → Opens b
  OpensEscaped : opening_of b ≡ opening.Escaped → b ≡ 92 → Opens b
  OpensDirective : opening_of b ≡ opening.Directive → b ≡ 96 → Opens b
  OpensMark : opening_of b ≡ opening.Mark → Opens b

opening-white : (b : ℕ) → is_white b ≡ true → opening_of b ≡ opening.White
opening-white b white = cond_true (is_white b) opening.White _ white

opening-identifier : (b : ℕ) → begins_identifier b ≡ true → opening_of b ≡ opening.Identifier
opening-identifier b begins =
    let not_white : is_white b ≡ false = grind (arith, nat_tests) in
    cond_false (is_white b) opening.White _ not_white ∙ cond_true (begins_identifier b) opening.Identifier _ begins

opening-number : (b : ℕ) → is_ascii_digit b ≡ true → opening_of b ≡ opening.Number
opening-number b digit =
    let not_white : is_white b ≡ false = grind (arith, nat_tests) in
    let not_letter : begins_identifier b ≡ false = grind (arith, nat_tests) in
    cond_false (is_white b) opening.White _ not_white ∙ cond_false (begins_identifier b) opening.Identifier _ not_letter ∙ cond_true (is_ascii_digit b) opening.Number _ digit

opens_sign : (b : ℕ) → opening_of b ≡ (cond (b == 47) opening.Comment (cond (b == 40) opening.Round (cond (b == 92) opening.Escaped (cond (b == 96) opening.Directive opening.Mark)))) → Opens b
opens_sign b is =
    ⊎_elim
    (λ yes. OpensComment (is ∙ cond_true (b == 47) _ _ yes) (eqb-true b 47 yes))
    (λ n1. ⊎_elim
    (λ yes. OpensRound (is ∙ cond_false (b == 47) _ _ n1 ∙ cond_true (b == 40) _ _ yes) (eqb-true b 40 yes))
    (λ n2. ⊎_elim
    (λ yes. OpensEscaped (is ∙ cond_false (b == 47) _ _ n1 ∙ cond_false (b == 40) _ _ n2 ∙ cond_true (b == 92) _ _ yes) (eqb-true b 92 yes))
    (λ n3. ⊎_elim
    (λ yes. OpensDirective (is ∙ cond_false (b == 47) _ _ n1 ∙ cond_false (b == 40) _ _ n2 ∙ cond_false (b == 92) _ _ n3 ∙ cond_true (b == 96) _ _ yes) (eqb-true b 96 yes))
    (λ n4. OpensMark (is ∙ cond_false (b == 47) _ _ n1 ∙ cond_false (b == 40) _ _ n2 ∙ cond_false (b == 92) _ _ n3 ∙ cond_false (b == 96) _ _ n4))
    (cases_of (b == 96)))
    (cases_of (b == 92)))
    (cases_of (b == 40)))
    (cases_of (b == 47))

opens : (b : ℕ) → Opens b
opens b =
    ⊎_elim
    (λ yes. OpensWhite (opening-white b yes) yes)
    (λ n1. ⊎_elim
    (λ yes. OpensIdentifier (opening-identifier b yes) yes)
    (λ n2. ⊎_elim
    (λ yes. OpensNumber (opening-number b yes) yes)
    (λ n3. opens_sign b (cond_false (is_white b) opening.White _ n1 ∙ cond_false (begins_identifier b) opening.Identifier _ n2 ∙ cond_false (is_ascii_digit b) opening.Number _ n3))
    (cases_of (is_ascii_digit b)))
    (cases_of (begins_identifier b)))
    (cases_of (is_white b))

-- a piece at the beginning of a text, and what is left after it
pub record IsAtPrefix (text : List ℕ) (kind : Option Kind) (r : List ℕ) : Type 0 where
  pub prefix : List ℕ
  pub splits : text ≡ prefix ++ r
  pub is : IsPiece (record { kind = kind; bytes = prefix }) r

skip_prefix : (text prefix r : List ℕ) (kind : Option Kind) → kind ≡ None → text ≡ prefix ++ r → IsSkip prefix r → IsAtPrefix text kind r
skip_prefix text prefix r None k e is = record { prefix = prefix; splits = e; is = is }
skip_prefix text prefix r (Some kind) k e is = absurd (cc)

token_prefix : (text prefix r : List ℕ) (kind : Option Kind) (k : Kind) → kind ≡ Some k → text ≡ prefix ++ r → IsToken k prefix r → IsAtPrefix text kind r
token_prefix text prefix r kind k is e token = record { prefix = prefix; splits = e; is = subst (λ o. IsPiece (record { kind = o; bytes = prefix }) r) (sym is) token }

skipped_sound : (o : Option (List ℕ)) (kind : Option Kind) (r : List ℕ) → skipped o ≡ Some (kind, r) → (kind ≡ None) × (o ≡ Some r)
skipped_sound None kind r h = absurd (cc)
skipped_sound (Some after) kind r h = let both = some_pair None kind after r h in (sym both.0, ap Some both.1)

comment_sound : (t r : List ℕ) (kind : Option Kind) → skipped (after_comment t) ≡ Some (kind, r) → IsAtPrefix (47 ∷ t) kind r
comment_sound [] r kind h = absurd (cc)
comment_sound (b ∷ t) r kind h =
    let found = skipped_sound (after_comment (b ∷ t)) kind r h in
    ⊎_elim
    (λ line.
    let b_is : b ≡ 47 = eqb-true b 47 line.0 in
    let e : past is_in_line t ≡ r = cc in
    skip_prefix (47 ∷ b ∷ t) (47 ∷ b ∷ run_of is_in_line t) r kind found.0
    (ap (λ l. 47 ∷ b ∷ l) (sym (ap (λ l. run_of is_in_line t ++ l) (sym e) ∙ run-past is_in_line t)))
    (LineComment (record { body = run_of is_in_line t; opens = ap (λ n. 47 ∷ n ∷ run_of is_in_line t) b_is; in_line = each_of_run is_in_line t })))
    (λ other.
    ⊎_elim
    (λ block.
    let b_is : b ≡ 42 = eqb-true b 42 block.0 in
    let w = pair_sound 42 47 t r block.1 in
    skip_prefix (47 ∷ b ∷ t) (47 ∷ b ∷ w.0) r kind found.0 (ap (λ l. 47 ∷ b ∷ l) w.1)
    (BlockComment (record { body = w.0; opens = ap (λ n. 47 ∷ n ∷ w.0) b_is; closes = w.2 })))
    (λ not. absurd (cc))
    (chosen (b == 42) (after_pair 42 47 t) None (Some r) other.1))
    (chosen (b == 47) (Some (past is_in_line t)) (cond (b == 42) (after_pair 42 47 t) None) (Some r) found.1)

round_prefix : (t r : List ℕ) (kind : Option Kind) → kind ≡ Some (MarkKind LeftRound) → t ≡ r → BeginsNot (λ b. b == 42) t → IsAtPrefix (40 ∷ t) kind r
round_prefix t r kind is e not =
    token_prefix (40 ∷ t) (40 ∷ []) r kind (MarkKind LeftRound) is (ap (λ l. 40 ∷ l) e) (Symbol LeftRound refl (λ _. subst (BeginsNot (λ b. b == 42)) e not) refl)

round_sound : (t r : List ℕ) (kind : Option Kind) → round_at t ≡ Some (kind, r) → IsAtPrefix (40 ∷ t) kind r
round_sound [] r kind h = let both = some_pair (Some (MarkKind LeftRound)) kind [] r h in round_prefix [] r kind (sym both.0) both.1 tt
round_sound (b ∷ t) r kind h =
    ⊎_elim
    (λ star.
    let b_is : b ≡ 42 = eqb-true b 42 star.0 in
    let found = skipped_sound (after_attribute t) kind r star.1 in
    let w = attribute_sound t r found.1 in
    skip_prefix (40 ∷ b ∷ t) (40 ∷ b ∷ w.0) r kind found.0 (ap (λ l. 40 ∷ b ∷ l) w.2)
    (Attribute (record { body = w.0; parts = w.1; opens = ap (λ n. 40 ∷ n ∷ w.0) b_is; not_at_once = w.3; closes = w.4 })))
    (λ other.
    let both = some_pair (Some (MarkKind LeftRound)) kind (b ∷ t) r other.1 in
    round_prefix (b ∷ t) r kind (sym both.0) both.1 other.0)
    (chosen (b == 42) (skipped (after_attribute t)) (Some (Some (MarkKind LeftRound), b ∷ t)) (Some (kind, r)) h)

number_prefix : (text prefix r : List ℕ) (kind : Option Kind) → text ≡ prefix ++ r → IsNumber kind prefix r → IsAtPrefix text kind r
number_prefix text prefix r kind e is =
    ⊎_elim
    (λ plain. token_prefix text prefix r kind Plain plain.0 e (PlainNumber plain.1 refl))
    (λ sized. token_prefix text prefix r kind Sized sized.0 e (SizedNumber sized.1 refl))
    is

opened_sound : (b : ℕ) (t r : List ℕ) (kind : Option Kind) → Opens b → opened_by (opening_of b) b t ≡ Some (kind, r) → IsAtPrefix (b ∷ t) kind r
opened_sound b t r kind (OpensWhite o white) h =
    let both = some_pair None kind t r (subst (λ p. opened_by p b t ≡ Some (kind, r)) o h) in
    skip_prefix (b ∷ t) (b ∷ []) r kind (sym both.0) (ap (λ l. b ∷ l) both.1) (White b refl white)
opened_sound b t r kind (OpensIdentifier o begins) h =
    let run : List ℕ = run_of is_identifier_byte (b ∷ t) in
    let both = some_pair (Some (kind_of_word (keyword_of run))) kind (past is_identifier_byte (b ∷ t)) r (subst (λ p. opened_by p b t ≡ Some (kind, r)) o h) in
    token_prefix (b ∷ t) run r kind (kind_of_word (keyword_of run)) (sym both.0) (sym (run-past is_identifier_byte (b ∷ t)) ∙ ap (λ l. run ++ l) both.1) (Identifier (identifier_sound b t begins) refl)
opened_sound b t r kind (OpensNumber o digit) h =
    let w = number_sound b t r kind digit (subst (λ p. opened_by p b t ≡ Some (kind, r)) o h) in
    number_prefix (b ∷ t) w.0 r kind w.1 w.2
opened_sound b t r kind (OpensComment o is) h =
    subst (λ n. IsAtPrefix (n ∷ t) kind r) (sym is) (comment_sound t r kind (subst (λ p. opened_by p b t ≡ Some (kind, r)) o h))
opened_sound b t r kind (OpensRound o is) h =
    subst (λ n. IsAtPrefix (n ∷ t) kind r) (sym is) (round_sound t r kind (subst (λ p. opened_by p b t ≡ Some (kind, r)) o h))
opened_sound b t r kind (OpensEscaped o is) h =
    let found = token_sound Name (after_escaped t) kind r (subst (λ p. opened_by p b t ≡ Some (kind, r)) o h) in
    let w = escaped_sound t r found.1 in
    subst (λ n. IsAtPrefix (n ∷ t) kind r) (sym is) (token_prefix (92 ∷ t) (92 ∷ w.0) r kind Name found.0 (ap (λ l. 92 ∷ l) w.1) (Escaped w.2 refl))
opened_sound b t r kind (OpensDirective o is) h =
    let found = skipped_sound (after_directive t) kind r (subst (λ p. opened_by p b t ≡ Some (kind, r)) o h) in
    let w = directive_sound t r found.1 in
    subst (λ n. IsAtPrefix (n ∷ t) kind r) (sym is) (skip_prefix (96 ∷ t) (96 ∷ w.0) r kind found.0 (ap (λ l. 96 ∷ l) w.1) (Directive w.2))
opened_sound b t r kind (OpensMark o) h =
    let w = mark_sound b t r kind (subst (λ p. opened_by p b t ≡ Some (kind, r)) o h) in
    token_prefix (b ∷ t) (written w.mark) r kind (MarkKind w.mark) w.kind_is w.splits (Symbol w.mark refl (λ e. absurd (w.some e)) refl)

pub piece_sound : (text r : List ℕ) (kind : Option Kind) → piece_at text ≡ Some (kind, r) → IsAtPrefix text kind r
piece_sound [] r kind h = absurd (cc)
piece_sound (b ∷ t) r kind h = opened_sound b t r kind (opens b) h

-- the text is read past these bytes, by a piece of the kind where it is read just so far
pub record Reaches (kind : Option Kind) (bytes after : List ℕ) : Type 0 where
  pub found : Option Kind
  pub more : List ℕ
  pub rest : List ℕ
  pub splits : after ≡ more ++ rest
  pub read : piece_at (bytes ++ after) ≡ Some (found, rest)
  pub same : more ≡ [] → found ≡ kind

exactly : (kind : Option Kind) (bytes after : List ℕ) → piece_at (bytes ++ after) ≡ Some (kind, after) → Reaches kind bytes after
exactly kind bytes after e = record { found = kind; more = []; rest = after; splits = refl; read = e; same = λ _. refl }

reaches_as : (kind : Option Kind) (bytes made after : List ℕ) → bytes ≡ made → Reaches kind made after → Reaches kind bytes after
reaches_as kind bytes made after e w = subst (λ l. Reaches kind l after) (sym e) w

white_complete : (b : ℕ) (after : List ℕ) → is_white b ≡ true → Reaches None (b ∷ []) after
white_complete b after white = exactly None (b ∷ []) after (ap (λ o. opened_by o b after) (opening-white b white))

line_complete : (body after : List ℕ) → Each is_in_line body → Reaches None (47 ∷ 47 ∷ body) after
line_complete body after each = record {
  found = None;
  more = run_of is_in_line after;
  rest = past is_in_line after;
  splits = sym (run-past is_in_line after);
  read = ap (λ l. skipped (Some l)) (past-each is_in_line body after each);
  same = λ _. refl;
}

skip_complete : (bytes after : List ℕ) → IsSkip bytes after → Reaches None bytes after
skip_complete bytes after (White b e white) = reaches_as None bytes (b ∷ []) after e (white_complete b after white)
skip_complete bytes after (LineComment is) = reaches_as None bytes (47 ∷ 47 ∷ is.body) after is.opens (line_complete is.body after is.in_line)
skip_complete bytes after (BlockComment is) =
    reaches_as None bytes (47 ∷ 42 ∷ is.body) after is.opens (exactly None (47 ∷ 42 ∷ is.body) after (ap skipped (pair_complete 42 47 is.body after is.closes)))
skip_complete bytes after (Attribute is) =
    reaches_as None bytes (40 ∷ 42 ∷ is.body) after is.opens (exactly None (40 ∷ 42 ∷ is.body) after (ap skipped (attribute_complete is.body after is.parts is.not_at_once is.closes)))
skip_complete bytes after (Directive is) =
    let prefix : List ℕ = is.word ++ is.line in
    reaches_as None bytes (96 ∷ prefix) after is.opens (record {
      found = None;
      more = run_of is_in_line after;
      rest = past is_in_line after;
      splits = sym (run-past is_in_line after);
      read = ap skipped (directive_complete prefix after (subst (λ l. IsDirective l after) is.opens is));
      same = λ _. refl;
    })

identifier_complete : (bytes after : List ℕ) (kind : Kind) → IsIdentifier bytes → kind ≡ kind_of_word (keyword_of bytes) → Reaches (Some kind) bytes after
identifier_complete [] after kind is k = absurd is
identifier_complete (b ∷ bytes) after kind is k =
    let each : Each is_identifier_byte (b ∷ bytes) = each_of_identifier (b ∷ bytes) is in
    let more : List ℕ = run_of is_identifier_byte after in
    let run : run_of is_identifier_byte (b ∷ bytes ++ after) ≡ (b ∷ bytes) ++ more = run-each is_identifier_byte (b ∷ bytes) after each in
    record {
      found = Some (kind_of_word (keyword_of ((b ∷ bytes) ++ more)));
      more = more;
      rest = past is_identifier_byte after;
      splits = sym (run-past is_identifier_byte after);
      read = ap (λ o. opened_by o b (bytes ++ after)) (opening-identifier b is.0)
          ∙ ap (λ l. Some (Some (kind_of_word (keyword_of l)), past is_identifier_byte (b ∷ bytes ++ after))) run
          ∙ ap (λ l. Some (Some (kind_of_word (keyword_of ((b ∷ bytes) ++ more))), l)) (past-each is_identifier_byte (b ∷ bytes) after each);
      same = λ none. ap (λ l. Some (kind_of_word (keyword_of l))) (ap (λ l. (b ∷ bytes) ++ l) none ∙ append-nil (b ∷ bytes)) ∙ ap Some (sym k);
    }

read_number : (run afterwards : List ℕ) → IsDecimalRun run → piece_at (run ++ afterwards) ≡ number_at (run ++ afterwards)
read_number [] afterwards is = absurd is
read_number (b ∷ run) afterwards is = ap (λ o. opened_by o b (run ++ afterwards)) (opening-number b is.0)

sized_read : (bytes after : List ℕ) → IsSized bytes after → piece_at (bytes ++ after) ≡ Some (Some Sized, after)
sized_read bytes after is =
    let afterwards : List ℕ = is.gap ++ 39 ∷ is.letter ∷ (is.space ++ is.digits) in
    let made : bytes ++ after ≡ is.size ++ (afterwards ++ after) = ap (λ l. l ++ after) is.made_of ∙ append_assoc is.size afterwards after in
    ap piece_at made ∙ read_number is.size (afterwards ++ after) is.size_run ∙ ap number_at (sym made) ∙ sized_complete bytes after is

round_complete : (after : List ℕ) → BeginsNot (λ b. b == 42) after → Reaches (Some (MarkKind LeftRound)) (40 ∷ []) after
round_complete [] not = exactly (Some (MarkKind LeftRound)) (40 ∷ []) [] refl
round_complete (b ∷ after) not = exactly (Some (MarkKind LeftRound)) (40 ∷ []) (b ∷ after) (cond_false (b == 42) (skipped (after_attribute after)) (Some (Some (MarkKind LeftRound), b ∷ after)) not)

-- a byte, or two bytes, and the mark that they are read as
ReadsMark : Mark → List ℕ → Type 0
ReadsMark mark [] = ⊥
ReadsMark mark (b ∷ []) = (opening_of b ≡ opening.Mark) × (short_mark b ≡ Some mark)
ReadsMark mark (b ∷ c ∷ []) = (opening_of b ≡ opening.Mark) × (long_mark b c ≡ Some mark)
ReadsMark mark (b ∷ c ∷ d ∷ bytes) = ⊥

reads_mark : (mark : Mark) → mark ≢ LeftRound → ReadsMark mark (written mark)
unfolding ReadsMark
reads_mark LeftRound other = absurd (other refl)
reads_mark mark other = (refl, refl)

-- a byte is read with the one after it where both are a mark, and else alone
longer_reads : (mark : Mark) (b c : ℕ) (after : List ℕ) (longer : Option Mark) → opening_of b ≡ opening.Mark → short_mark b ≡ Some mark → long_mark b c ≡ longer
    → Reaches (Some (MarkKind mark)) (b ∷ []) (c ∷ after)
longer_reads mark b c after None o short long =
    exactly (Some (MarkKind mark)) (b ∷ []) (c ∷ after)
    (ap (λ p. opened_by p b (c ∷ after)) o ∙ ap (λ l. longer_mark l after (short_mark b) (c ∷ after)) long ∙ ap (λ m. mark_before m (c ∷ after)) short)
longer_reads mark b c after (Some longer) o short long = record {
  found = Some (MarkKind longer);
  more = c ∷ [];
  rest = after;
  splits = refl;
  read = ap (λ p. opened_by p b (c ∷ after)) o ∙ ap (λ l. longer_mark l after (short_mark b) (c ∷ after)) long;
  same = λ e. absurd (cc);
}

bytes_read : (mark : Mark) (bytes after : List ℕ) → ReadsMark mark bytes → Reaches (Some (MarkKind mark)) bytes after
unfolding ReadsMark
bytes_read mark [] after is = elim is [ ]
bytes_read mark (b ∷ []) [] is = exactly (Some (MarkKind mark)) (b ∷ []) [] (ap (λ p. opened_by p b []) is.0 ∙ ap (λ m. mark_before m []) is.1)
bytes_read mark (b ∷ []) (c ∷ after) is = longer_reads mark b c after (long_mark b c) is.0 is.1 refl
bytes_read mark (b ∷ c ∷ []) after is =
    exactly (Some (MarkKind mark)) (b ∷ c ∷ []) after
    (ap (λ p. opened_by p b (c ∷ after)) is.0 ∙ ap (λ l. longer_mark l after (short_mark b) (c ∷ after)) is.1)
bytes_read mark (b ∷ c ∷ d ∷ bytes) after is = elim is [ ]

mark_complete : (mark : Mark) (after : List ℕ) → (mark ≡ LeftRound → BeginsNot (λ b. b == 42) after) → Reaches (Some (MarkKind mark)) (written mark) after
mark_complete LeftRound after open_ = round_complete after (open_ refl)
mark_complete mark after open_ = bytes_read mark (written mark) after (reads_mark mark (λ e. cc))

token_complete : (kind : Kind) (bytes after : List ℕ) → IsToken kind bytes after → Reaches (Some kind) bytes after
token_complete kind bytes after (Identifier is k) = identifier_complete bytes after kind is k
token_complete kind bytes after (Escaped is k) =
    subst (λ o. Reaches (Some o) bytes after) (sym k)
    (reaches_as (Some Name) bytes (92 ∷ is.name) after is.opens
    (exactly (Some Name) (92 ∷ is.name) after (ap (token_of Name) (escaped_complete is.name after (subst (λ l. IsEscaped l after) is.opens is)))))
token_complete kind bytes after (SizedNumber is k) = subst (λ o. Reaches (Some o) bytes after) (sym k) (exactly (Some Sized) bytes after (sized_read bytes after is))
token_complete kind bytes after (PlainNumber is k) =
    subst (λ o. Reaches (Some o) bytes after) (sym k) (exactly (Some Plain) bytes after (read_number bytes after is.run ∙ plain_complete bytes after is))
token_complete kind bytes after (Symbol mark e open_ k) =
    subst (λ o. Reaches (Some o) bytes after) (sym k) (reaches_as (Some (MarkKind mark)) bytes (written mark) after e (mark_complete mark after open_))

complete_by : (kind : Option Kind) (bytes after : List ℕ) → IsPiece (record { kind = kind; bytes = bytes }) after → Reaches kind bytes after
complete_by None bytes after is = skip_complete bytes after is
complete_by (Some kind) bytes after is = token_complete kind bytes after is

pub piece_complete : (piece : Piece) (after : List ℕ) → IsPiece piece after → Reaches piece.kind piece.bytes after
piece_complete piece after is = complete_by piece.kind piece.bytes after is
