-- The laws of cuts, token lists and numbers.
use Rattle.std.proofs.Common.{◌≡◌, ◌⊎◌, ℕ, zero, suc, ◌+◌, ◌*◌, ◌/◌, ◌%◌, ◌^◌, true, List, [], ◌∷◌, ◌++◌, length, length-append, map, sym, refl, ap, ◌∙◌, arith, ⊎_elim, inl, inr, eqb-true, eq-eqb, Ok, Err, Result}
use Rattle.std.specs.Prelude.{◌==◌, ◌&&◌, Vec, IfOk, IfErr, MatchResult}
use Rattle.std.specs.Global.{Global}
use Rattle.bb_lex.specs.declared.token.Token.{Token}
use Rattle.bb_lex.specs.declared.fault.LexFault.{LexFault}
use Rattle.bb_lex.specs.declared.fault.LexFault.TheVariants.{Bad, NoMemory}
use Rattle.bb_lex.specs.Inside.Answers.{IsFault, IsAnswer}
use Rattle.std.proofs.lemmas.Nat.{mod-pow-add}
use Rattle.std.proofs.lemmas.List.{length-map}
use Rattle.bb_lex.specs.Numbers.{spelled, number, radix_of, weighted_bits, bit_value}
use Rattle.bb_lex.specs.Inside.Numbers.{sized_bits_of}
use Rattle.bb_lex.specs.Cut.{AreTokens, tokens_after, line_after}
use Rattle.bb_lex.specs.Laws.{CutsAreOne, TokensAreOne, BadPlacesAreOne, BadLinesAreOne, CutOrBad, NotBoth, TokensOrBadLine, NotTokensAndBadLine, TokensAreInText, TokensRise, LowBitsSpell, EndsAtFirstPlace, TokensEndPastTheirPlaces, TokensAreFew, NamesArePrintable, SizedTokensSayBits, SizedBitsAreOne, SizedBitsFit, PlainValuesFit, ReadBitsAreMeant, ReadPiecesAreLongest, LongestPiecesAreRead, NoneIsReadWhereNoneBegins}
use Rattle.bb_lex.specs.Skips.{EndsAtFirst}
use Rattle.bb_lex.proofs.Choices.{cases_of, from_match, left_true, right_true, both_true}
use Rattle.bb_lex.proofs.CutReading.{longest_from_read, read_from_longest, none_begins, none_read}
use Rattle.bb_lex.proofs.Meanings.{reports_read, said_bits, plain_fits}
use Rattle.bb_lex.proofs.PieceReading.{piece_sound}
use Rattle.bb_lex.proofs.TokenNames.{names_printable}
use Rattle.bb_lex.proofs.TokenLists as lists

pub cuts_are_one : CutsAreOne
cuts_are_one = lists.one_cut

pub tokens_are_one : TokensAreOne
tokens_are_one = lists.one_list

pub bad_places_are_one : BadPlacesAreOne
bad_places_are_one = lists.one_place

pub bad_lines_are_one : BadLinesAreOne
bad_lines_are_one text line other bad worse = bad.on ∙ ap line_after (lists.one_place text bad.prefix worse.prefix bad.bad worse.bad) ∙ sym worse.on

pub cut_or_bad : CutOrBad
cut_or_bad = lists.cut_or_bad

pub not_both : NotBoth
not_both = lists.not_both

pub tokens_or_bad_line : TokensOrBadLine
tokens_or_bad_line text =
    ⊎_elim
    (λ cut. inl (tokens_after [] cut.0, record { pieces = cut.0; cut = cut.1; are = refl }))
    (λ bad. inr (line_after bad.0, record { prefix = bad.0; bad = bad.1; on = refl }))
    (lists.cut_or_bad text)

pub not_tokens_and_bad_line : NotTokensAndBadLine
not_tokens_and_bad_line text tokens line are bad = lists.not_both text bad.prefix are.pieces are.cut bad.bad

pub tokens_are_in_text : TokensAreInText
tokens_are_in_text = lists.tokens_of_text

pub tokens_rise : TokensRise
tokens_rise = lists.tokens_in_order

length-weighted_bits : (n value : ℕ) → length (weighted_bits n value) ≡ n
length-weighted_bits zero value = refl
length-weighted_bits (suc n) value = ap suc (length-weighted_bits n value)

bit_is_rest : (n : ℕ) → bit_value (n % 2 == 1) ≡ n % 2
bit_is_rest n =
    ⊎_elim
    (λ yes. ap bit_value yes ∙ sym (eqb-true (n % 2) 1 yes))
    (λ other. ap bit_value other ∙ (let not_one : n % 2 ≡ 1 → ⊥ = λ e. let same : (n % 2 == 1) ≡ true = eq-eqb (n % 2) 1 e in cc in omega arith))
    (cases_of (n % 2 == 1))

spelled-weighted_bits : (n value : ℕ) → spelled 2 (map bit_value (weighted_bits n value)) ≡ value % 2 ^ n
spelled-weighted_bits zero value = omega arith
spelled-weighted_bits (suc n) value =
    let count : length (map bit_value (weighted_bits n value)) ≡ n = length-map (weighted_bits n value) bit_value ∙ length-weighted_bits n value in
    let one : 1 + n ≡ suc n = omega arith in
    ap (λ b. b * 2 ^ length (map bit_value (weighted_bits n value)) + spelled 2 (map bit_value (weighted_bits n value))) (bit_is_rest (value / 2 ^ n))
    ∙ ap (λ k. value / 2 ^ n % 2 * 2 ^ k + spelled 2 (map bit_value (weighted_bits n value))) count
    ∙ ap (λ x. value / 2 ^ n % 2 * 2 ^ n + x) (spelled-weighted_bits n value)
    ∙ sym (mod-pow-add value 1 n)
    ∙ ap (λ k. value % 2 ^ k) one

pub low_bits_spell : LowBitsSpell
low_bits_spell n value = (length-weighted_bits n value, spelled-weighted_bits n value)

-- a text with tokens is answered by them unless memory runs out, and so is one that goes wrong
module _ (text : List ℕ) where
  pub answer_ok : (r : Result (Vec Token Global) LexFault) → IsAnswer text r → IfOk r (λ found. AreTokens text found.items)
  answer_ok (Ok found) is = is
  answer_ok (Err (Bad line)) is = tt
  answer_ok (Err NoMemory) is = tt

  pub answer_fault : (r : Result (Vec Token Global) LexFault) → IsAnswer text r → IfErr r (λ fault. (fault ≡ NoMemory) ⊎ IsFault text fault)
  answer_fault (Ok found) is = tt
  answer_fault (Err (Bad line)) is = inr is
  answer_fault (Err NoMemory) is = inl refl

  pub answer_only_ok : (r : Result (Vec Token Global) LexFault) → IsAnswer text r → (tokens : List Token) → AreTokens text tokens
      → MatchResult r (λ found. found.items ≡ tokens) (λ fault. fault ≡ NoMemory)
  answer_only_ok (Ok found) is tokens are = tokens_are_one text found.items tokens is are
  answer_only_ok (Err (Bad line)) is tokens are = absurd (not_tokens_and_bad_line text tokens line are is)
  answer_only_ok (Err NoMemory) is tokens are = refl

  pub answer_only_fault : (r : Result (Vec Token Global) LexFault) → IsAnswer text r → (first : LexFault) → IsFault text first
      → MatchResult r (λ found. ⊥) (λ fault. (fault ≡ first) ⊎ (fault ≡ NoMemory))
  answer_only_fault r is NoMemory bad = elim bad [ ]
  answer_only_fault (Ok found) is (Bad line) bad = not_tokens_and_bad_line text found.items line is bad
  answer_only_fault (Err (Bad other)) is (Bad line) bad = inl (ap Bad (bad_lines_are_one text other line is bad))
  answer_only_fault (Err NoMemory) is (Bad line) bad = inr refl

ends_with : (x y : ℕ) (bytes : List ℕ) → EndsAtFirst x y bytes → (body : List ℕ) × (bytes ≡ body ++ x ∷ y ∷ [])
ends_with x y [] ends = absurd ends
ends_with x y (b ∷ []) ends = absurd ends
ends_with x y (b ∷ c ∷ bytes) ends =
    ⊎_elim
    (λ hit. ([], ap (λ n. n ∷ c ∷ bytes) (eqb-true b x (left_true (b == x) (c == y) hit.0)) ∙ ap (λ n. x ∷ n ∷ bytes) (eqb-true c y (right_true (b == x) (c == y) hit.0)) ∙ ap (λ l. x ∷ y ∷ l) hit.1))
    (λ miss. let w = ends_with x y (c ∷ bytes) miss.1 in (b ∷ w.0, ap (λ l. b ∷ l) w.1))
    (from_match (b == x && c == y) (bytes ≡ []) (EndsAtFirst x y (c ∷ bytes)) ends)

ends_only : (x y : ℕ) (bytes prefix back : List ℕ) → EndsAtFirst x y bytes → bytes ≡ prefix ++ x ∷ y ∷ back → back ≡ []
ends_only x y [] prefix back ends e = absurd ends
ends_only x y (b ∷ []) prefix back ends e = absurd ends
ends_only x y (b ∷ c ∷ bytes) [] back ends e =
    let b_is : b ≡ x = cc in
    let c_is : c ≡ y = cc in
    let same : bytes ≡ back = cc in
    ⊎_elim
    (λ hit. sym same ∙ hit.1)
    (λ miss. absurd (let yes : (b == x && c == y) ≡ true = both_true (b == x) (c == y) (eq-eqb b x b_is) (eq-eqb c y c_is) in cc))
    (from_match (b == x && c == y) (bytes ≡ []) (EndsAtFirst x y (c ∷ bytes)) ends)
ends_only x y (b ∷ c ∷ bytes) (f ∷ prefix) back ends e =
    let rest : c ∷ bytes ≡ prefix ++ x ∷ y ∷ back = cc in
    ⊎_elim
    (λ hit. absurd (omega (arith, ap length rest, ap length hit.1, length-append prefix (x ∷ y ∷ back))))
    (λ miss. ends_only x y (c ∷ bytes) prefix back miss.1 rest)
    (from_match (b == x && c == y) (bytes ≡ []) (EndsAtFirst x y (c ∷ bytes)) ends)

pub ends_at_first_place : EndsAtFirstPlace
ends_at_first_place x y bytes ends = (ends_with x y bytes ends, λ prefix back e. ends_only x y bytes prefix back ends e)

pub tokens_end_past_their_places : TokensEndPastTheirPlaces
tokens_end_past_their_places = lists.end_past_place

pub tokens_are_few : TokensAreFew
tokens_are_few = lists.tokens_short

pub names_are_printable : NamesArePrintable
names_are_printable = names_printable

pub sized_tokens_say_bits : SizedTokensSayBits
sized_tokens_say_bits token text is e = (sized_bits_of token text, reports_read token text e is)

pub sized_bits_are_one : SizedBitsAreOne
sized_bits_are_one token text bits others reports other = said_bits token text bits reports ∙ sym (said_bits token text others other)

pub sized_bits_fit : SizedBitsFit
sized_bits_fit token text bits reports =
    let count : length bits ≡ number 10 reports.is.size = ap length reports.are ∙ length-weighted_bits (number 10 reports.is.size) (number (radix_of reports.is.letter) reports.is.digits) in
    (omega (arith, count, reports.is.some_bits), omega (arith, count, reports.is.at_most_128))

pub plain_values_fit : PlainValuesFit
plain_values_fit token text is e = plain_fits token text e is

pub read_bits_are_meant : ReadBitsAreMeant
read_bits_are_meant token text = ((λ is e. reports_read token text e is), said_bits token text)

pub read_pieces_are_longest : ReadPiecesAreLongest
read_pieces_are_longest text rest kind read =
    let w = piece_sound text rest kind read in (w.prefix, w.splits, longest_from_read text rest kind read w)

pub longest_pieces_are_read : LongestPiecesAreRead
longest_pieces_are_read = read_from_longest

pub none_is_read_where_none_begins : NoneIsReadWhereNoneBegins
none_is_read_where_none_begins text = (none_begins text, none_read text)
