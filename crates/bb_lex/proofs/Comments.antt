-- The reading of comments, strings and attributes finds what the rules say, and nothing else.
use Rattle.std.proofs.Common.{◌≡◌, ◌⊎◌, ℕ, zero, suc, ◌<◌, ◌≤◌, Bool, true, false, cond, Option, Some, None, List, [], ◌∷◌, ◌++◌, length, get_or, sym, refl, ap, ◌∙◌, subst, arith, ⊎_elim, inl, inr, append_assoc, length-append, eqb-true, eq-eqb, MatchBool}
use Rattle.std.specs.Prelude.{◌&&◌, ◌||◌, ◌==◌, codes}
use Rattle.bb_lex.specs.Bytes.{is_in_line, Each, BeginsNot, EndsBefore, past}
use Rattle.bb_lex.specs.Skips.{EndsAtFirst, EndsAtQuote, IsOrdinary, IsPart, ArePartsOf}
use Rattle.bb_lex.specs.Skips.IsPart.{Quoted, Block, Line, Other}
use Rattle.bb_lex.specs.Inside.Runs.{run_of}
use Rattle.bb_lex.specs.Inside.Skips.{after_pair, after_quote, after_slash, after_part, after_close, after_next, after_parts, after_attribute}
use Rattle.bb_lex.proofs.Choices.{cases_of, chosen, match_true, match_false, by_match, cond_true, cond_false, from_not, to_not, or_false, left_false, right_false, and_false, false_and, left_true, right_true}
use Rattle.bb_lex.proofs.Runs.{run-past, each_of_run, past_stops, past-each, past-none}

-- a byte before what does not end at the pair with it
ends_later : (x y b c : ℕ) (t body r : List ℕ) → (b == x && c == y) ≡ false → c ∷ t ≡ body ++ r → EndsAtFirst x y body → EndsAtFirst x y (b ∷ body)
ends_later x y b c t [] r miss e ends = absurd ends
ends_later x y b c t (d ∷ body) r miss e ends =
    let same : c ≡ d = cc in
    match_false (b == x && d == y) (body ≡ []) (EndsAtFirst x y (d ∷ body)) (subst (λ (n : ℕ). (b == x && n == y) ≡ false) same miss) ends

pub pair_sound : (x y : ℕ) (t r : List ℕ) → after_pair x y t ≡ Some r → (body : List ℕ) × (t ≡ body ++ r) × EndsAtFirst x y body
pair_sound x y [] r h = absurd (cc)
pair_sound x y (b ∷ []) r h = absurd (cc)
pair_sound x y (b ∷ c ∷ t) r h =
    ⊎_elim
    (λ hit. (b ∷ c ∷ [], (let e : t ≡ r = cc in ap (λ l. b ∷ c ∷ l) e), match_true _ _ _ hit.0 refl))
    (λ miss. let w = pair_sound x y (c ∷ t) r miss.1 in (b ∷ w.0, ap (λ l. b ∷ l) w.1, ends_later x y b c t w.0 r miss.0 w.1 w.2))
    (chosen _ _ _ _ h)

pub pair_complete : (x y : ℕ) (body r : List ℕ) → EndsAtFirst x y body → after_pair x y (body ++ r) ≡ Some r
pair_complete x y [] r ends = absurd ends
pair_complete x y (b ∷ []) r ends = absurd ends
pair_complete x y (b ∷ c ∷ body) r ends =
    by_match (b == x && c == y) (body ≡ []) (EndsAtFirst x y (c ∷ body)) (Some (body ++ r)) (after_pair x y ((c ∷ body) ++ r)) (Some r) ends
    (λ hit. ap (λ (l : List ℕ). Some (l ++ r)) hit)
    (λ miss. pair_complete x y (c ∷ body) r miss)

-- a byte that is no quote and no backslash before what ends at a quote
quotes_later : (b c : ℕ) (t body r : List ℕ) → (b == 34) ≡ false → (b == 92) ≡ false → c ∷ t ≡ body ++ r → EndsAtQuote body → EndsAtQuote (b ∷ body)
quotes_later b c t [] r no_quote no_slash e ends = absurd ends
quotes_later b c t (d ∷ body) r no_quote no_slash e ends = match_false _ _ _ no_quote (match_false _ _ _ no_slash ends)

pub quote_sound : (t r : List ℕ) → after_quote t ≡ Some r → (body : List ℕ) × (t ≡ body ++ r) × EndsAtQuote body
quote_sound [] r h = absurd (cc)
quote_sound (b ∷ []) r h =
    ⊎_elim
    (λ hit. (b ∷ [], (let e : [] ≡ r = cc in ap (λ l. b ∷ l) e), eqb-true b 34 hit.0))
    (λ miss. absurd (cc))
    (chosen _ _ _ _ h)
quote_sound (b ∷ c ∷ t) r h =
    ⊎_elim
    (λ hit. (b ∷ [], (let e : c ∷ t ≡ r = cc in ap (λ l. b ∷ l) e), eqb-true b 34 hit.0))
    (λ miss.
    ⊎_elim
    (λ escape. let w = quote_sound t r escape.1 in
    (b ∷ c ∷ w.0, ap (λ l. b ∷ c ∷ l) w.1, match_false _ _ _ miss.0 (match_true _ _ _ escape.0 w.2)))
    (λ plain. let w = quote_sound (c ∷ t) r plain.1 in
    (b ∷ w.0, ap (λ l. b ∷ l) w.1, quotes_later b c t w.0 r miss.0 plain.0 w.1 w.2))
    (chosen _ _ _ _ miss.1))
    (chosen _ _ _ _ h)

-- the quote is at the beginning
quote_here : (b : ℕ) (t : List ℕ) → b ≡ 34 → after_quote (b ∷ t) ≡ Some t
quote_here b [] is = cond_true _ _ _ (eq-eqb b 34 is)
quote_here b (c ∷ t) is = cond_true _ _ _ (eq-eqb b 34 is)

pub quote_complete : (body r : List ℕ) → EndsAtQuote body → after_quote (body ++ r) ≡ Some r
quote_complete [] r ends = absurd ends
quote_complete (b ∷ []) r ends = quote_here b r ends
quote_complete (b ∷ c ∷ body) r ends =
    by_match (b == 34) ⊥ (MatchBool (b == 92) (EndsAtQuote body) (EndsAtQuote (c ∷ body))) (Some (c ∷ body ++ r)) (cond (b == 92) (after_quote (body ++ r)) (after_quote ((c ∷ body) ++ r))) (Some r) ends
    (λ hit. absurd hit)
    (λ miss. by_match (b == 92) (EndsAtQuote body) (EndsAtQuote (c ∷ body)) (after_quote (body ++ r)) (after_quote ((c ∷ body) ++ r)) (Some r) miss
    (λ escape. quote_complete body r escape)
    (λ plain. quote_complete (c ∷ body) r plain))

-- a newline, or nothing, is what follows a run within a line
pub line_ends : (t : List ℕ) → BeginsNot is_in_line t → EndsBefore (λ b. b == 10) t
line_ends [] not = tt
line_ends (b ∷ t) not = from_not (b == 10) not

pub line_ended : (t : List ℕ) → EndsBefore (λ b. b == 10) t → BeginsNot is_in_line t
line_ended [] ends = tt
line_ended (b ∷ t) ends = to_not (b == 10) ends

-- what follows the slash of a part, where the part is read
slash_sound : (t r : List ℕ) → after_slash t ≡ Some r → (part : List ℕ) × (47 ∷ t ≡ part ++ r) × IsPart part r
slash_sound [] r h =
    let e : [] ≡ r = cc in
    (47 ∷ [], ap (λ l. 47 ∷ l) e, Other (record { byte = 47; is = refl; no_quote = refl; no_comment = λ _. subst (BeginsNot (λ b. b == 47 || b == 42)) e tt; no_end = λ no. absurd (omega (arith, no)) }))
slash_sound (b ∷ t) r h =
    ⊎_elim
    (λ line.
    let e : past is_in_line t ≡ r = cc in
    let b_is : b ≡ 47 = eqb-true b 47 line.0 in (
      47 ∷ b ∷ run_of is_in_line t,
      ap (λ l. 47 ∷ b ∷ l) (sym (ap (λ l. run_of is_in_line t ++ l) (sym e) ∙ run-past is_in_line t)),
      Line
          (record { body = run_of is_in_line t; opens = ap (λ n. 47 ∷ n ∷ run_of is_in_line t) b_is; in_line = each_of_run is_in_line t })
          (subst (EndsBefore (λ c. c == 10)) e (line_ends _ (past_stops is_in_line t))),
    ))
    (λ other.
    ⊎_elim
    (λ block.
    let w = pair_sound 42 47 t r block.1 in
    let b_is : b ≡ 42 = eqb-true b 42 block.0 in (
      47 ∷ b ∷ w.0,
      ap (λ l. 47 ∷ b ∷ l) w.1,
      Block (record { body = w.0; opens = ap (λ n. 47 ∷ n ∷ w.0) b_is; closes = w.2 }),
    ))
    (λ alone.
    let e : b ∷ t ≡ r = cc in (
      47 ∷ [],
      ap (λ l. 47 ∷ l) e,
      Other (record {
        byte = 47;
        is = refl;
        no_quote = refl;
        no_comment = λ _. subst (BeginsNot (λ c. c == 47 || c == 42)) e (or_false _ _ other.0 alone.0);
        no_end = λ no. absurd (omega (arith, no));
      }),
    ))
    (chosen _ _ _ _ other.1))
    (chosen _ _ _ _ h)

-- what closes no attribute goes on without the round bracket
no_close : (t : List ℕ) → after_close (42 ∷ t) ≡ None → BeginsNot (λ b. b == 41) t
no_close [] h = tt
no_close (b ∷ t) h = ⊎_elim (λ yes. absurd (let e : Some t ≡ None = cc in cc)) (λ no. no.0) (chosen (b == 41) (Some t) None None h)

pub part_sound : (t r : List ℕ) → after_close t ≡ None → after_part t ≡ Some r → (part : List ℕ) × (t ≡ part ++ r) × IsPart part r
part_sound [] r no_end h = absurd (cc)
part_sound (b ∷ t) r no_end h =
    ⊎_elim
    (λ quote.
    let w = quote_sound t r quote.1 in
    (b ∷ w.0, ap (λ l. b ∷ l) w.1, Quoted (record { body = w.0; opens = ap (λ n. n ∷ w.0) (eqb-true b 34 quote.0); closes = w.2 })))
    (λ other.
    ⊎_elim
    (λ slash.
    let b_is : 47 ≡ b = sym (eqb-true b 47 slash.0) in
    let w = slash_sound t r slash.1 in
    (w.0, subst (λ n. n ∷ t ≡ w.0 ++ r) b_is w.1, w.2))
    (λ plain.
    let e : t ≡ r = cc in (
      b ∷ [],
      ap (λ l. b ∷ l) e,
      Other (record {
        byte = b;
        is = refl;
        no_quote = other.0;
        no_comment = λ is. absurd (let f : (b == 47) ≡ true = eq-eqb b 47 is in cc);
        no_end = λ is. subst (BeginsNot (λ c. c == 41)) e (no_close t (subst (λ n. after_close (n ∷ t) ≡ None) is no_end));
      }),
    ))
    (chosen _ _ _ _ other.1))
    (chosen _ _ _ _ h)

-- a whole line comment is read up to what ends its line
line_complete : (body r : List ℕ) → Each is_in_line body → EndsBefore (λ b. b == 10) r → past is_in_line (body ++ r) ≡ r
line_complete body r in_line ends = past-each is_in_line body r in_line ∙ past-none is_in_line r (line_ended r ends)

-- a slash alone
slash_complete : (r : List ℕ) → BeginsNot (λ b. b == 47 || b == 42) r → after_slash r ≡ Some r
slash_complete [] not = refl
slash_complete (b ∷ r) not =
    cond_false (b == 47) _ _ (left_false _ _ not) ∙ cond_false (b == 42) _ _ (right_false (b == 47) _ not)

ordinary_complete : (b : ℕ) (r : List ℕ) → IsOrdinary (b ∷ []) r → after_part (b ∷ r) ≡ Some r
ordinary_complete b r other =
    let same : b ≡ other.byte = ap (λ l. get_or l 0 0) other.is in
    let no_quote : (b == 34) ≡ false = subst (λ n. (n == 34) ≡ false) (sym same) other.no_quote in
    cond_false (b == 34) _ _ no_quote ∙
    ⊎_elim
    (λ slash. cond_true (b == 47) _ _ slash ∙ slash_complete r (other.no_comment (sym same ∙ eqb-true b 47 slash)))
    (λ plain. cond_false (b == 47) _ _ plain)
    (cases_of (b == 47))

pub part_complete : (part r : List ℕ) → IsPart part r → after_part (part ++ r) ≡ Some r
part_complete part r (Quoted is) = subst (λ l. after_part (l ++ r) ≡ Some r) (sym is.opens) (quote_complete is.body r is.closes)
part_complete part r (Block is) = subst (λ l. after_part (l ++ r) ≡ Some r) (sym is.opens) (pair_complete 42 47 is.body r is.closes)
part_complete part r (Line is ends) = subst (λ l. after_part (l ++ r) ≡ Some r) (sym is.opens) (ap Some (line_complete is.body r is.in_line ends))
part_complete part r (Other is) =
    subst (λ l. after_part (l ++ r) ≡ Some r) (sym is.is)
    (ordinary_complete is.byte r (subst (λ l. IsOrdinary l r) is.is is))

-- where a part is, the attribute does not close
star_open : (b : ℕ) (r : List ℕ) → (b ≡ 42 → BeginsNot (λ c. c == 41) r) → after_close (b ∷ r) ≡ None
star_open b [] open_ = refl
star_open b (c ∷ r) open_ =
    ⊎_elim
    (λ star. cond_false (b == 42 && c == 41) _ _ (and_false _ _ (open_ (eqb-true b 42 star))))
    (λ other. cond_false (b == 42 && c == 41) _ _ (false_and _ _ other))
    (cases_of (b == 42))

pub part_open : (part r : List ℕ) → IsPart part r → after_close (part ++ r) ≡ None
part_open part r (Quoted is) = subst (λ l. after_close (l ++ r) ≡ None) (sym is.opens) (star_open 34 (is.body ++ r) (λ no. absurd (omega (arith, no))))
part_open part r (Block is) = subst (λ l. after_close (l ++ r) ≡ None) (sym is.opens) (star_open 47 (42 ∷ is.body ++ r) (λ no. absurd (omega (arith, no))))
part_open part r (Line is ends) = subst (λ l. after_close (l ++ r) ≡ None) (sym is.opens) (star_open 47 (47 ∷ is.body ++ r) (λ no. absurd (omega (arith, no))))
part_open part r (Other is) = subst (λ l. after_close (l ++ r) ≡ None) (sym is.is) (star_open is.byte r is.no_end)

-- a part has at least one byte
pub length-part : (part r : List ℕ) → IsPart part r → 0 < length part
length-part part r (Quoted is) = subst (λ l. 0 < length l) (sym is.opens) (omega arith)
length-part part r (Block is) = subst (λ l. 0 < length l) (sym is.opens) (omega arith)
length-part part r (Line is ends) = subst (λ l. 0 < length l) (sym is.opens) (omega arith)
length-part part r (Other is) = subst (λ l. 0 < length l) (sym is.is) (omega arith)

-- what follows a part that is not nothing may go on or be cut off
begins_longer : (p : ℕ → Bool) (after r : List ℕ) → 0 < length after → BeginsNot p after → BeginsNot p (after ++ r)
begins_longer p [] r some not = absurd (omega arith)
begins_longer p (b ∷ after) r some not = not

begins_shorter : (p : ℕ → Bool) (after r : List ℕ) → BeginsNot p (after ++ r) → BeginsNot p after
begins_shorter p [] r not = tt
begins_shorter p (b ∷ after) r not = not

ends_longer : (p : ℕ → Bool) (after r : List ℕ) → 0 < length after → EndsBefore p after → EndsBefore p (after ++ r)
ends_longer p [] r some ends = absurd (omega arith)
ends_longer p (b ∷ after) r some ends = ends

ends_shorter : (p : ℕ → Bool) (after r : List ℕ) → EndsBefore p (after ++ r) → EndsBefore p after
ends_shorter p [] r ends = tt
ends_shorter p (b ∷ after) r ends = ends

part_longer : (part after r : List ℕ) → 0 < length after → IsPart part after → IsPart part (after ++ r)
part_longer part after r some (Quoted is) = Quoted is
part_longer part after r some (Block is) = Block is
part_longer part after r some (Line is ends) = Line is (ends_longer _ after r some ends)
part_longer part after r some (Other is) = Other (record { byte = is.byte; is = is.is; no_quote = is.no_quote; no_comment = λ e. begins_longer _ after r some (is.no_comment e); no_end = λ e. begins_longer _ after r some (is.no_end e) })

part_shorter : (part after r : List ℕ) → IsPart part (after ++ r) → IsPart part after
part_shorter part after r (Quoted is) = Quoted is
part_shorter part after r (Block is) = Block is
part_shorter part after r (Line is ends) = Line is (ends_shorter _ after r ends)
part_shorter part after r (Other is) = Other (record { byte = is.byte; is = is.is; no_quote = is.no_quote; no_comment = λ e. begins_shorter _ after r (is.no_comment e); no_end = λ e. begins_shorter _ after r (is.no_end e) })

length-parts : (body : List ℕ) (parts : List (List ℕ)) → ArePartsOf body parts → 0 < length body
length-parts body [] are = subst (λ l. 0 < length l) (sym are) (omega arith)
length-parts body (part ∷ parts) are = omega (arith, ap length are.1, length-append part are.0, length-part part are.0 are.2)

close_sound : (t r : List ℕ) → after_close t ≡ Some r → t ≡ codes "*)" ++ r
close_sound [] r h = absurd (cc)
close_sound (b ∷ []) r h = absurd (cc)
close_sound (b ∷ c ∷ t) r h =
    ⊎_elim
    (λ yes.
    let b_is : b ≡ 42 = eqb-true b 42 (left_true _ _ yes.0) in
    let c_is : c ≡ 41 = eqb-true c 41 (right_true (b == 42) _ yes.0) in
    let e : t ≡ r = cc in
    cc)
    (λ no. absurd (cc))
    (chosen _ _ _ _ h)

-- how an attribute is read on
next_sound : (close part : Option (List ℕ)) (more : List ℕ → Option (List ℕ)) (r : List ℕ) → after_next close part more ≡ Some r → (close ≡ Some r) ⊎ ((close ≡ None) × ((after : List ℕ) × (part ≡ Some after) × (more after ≡ Some r)))
next_sound (Some after) part more r h = inl h
next_sound None None more r h = absurd (cc)
next_sound None (Some after) more r h = inr (refl, (after, refl, h))

pub parts_sound : (n : ℕ) (t r : List ℕ) → after_parts n t ≡ Some r → (body : List ℕ) × (parts : List (List ℕ)) × (t ≡ body ++ r) × ArePartsOf body parts
parts_sound zero t r h = absurd (cc)
parts_sound (suc n) t r h =
    ⊎_elim
    (λ close. (codes "*)", [], close_sound t r close, refl))
    (λ on.
    let w = part_sound t on.1.0 on.0 on.1.1 in
    let u = parts_sound n on.1.0 r on.1.2 in (
      w.0 ++ u.0,
      w.0 ∷ u.1,
      w.1 ∙ ap (λ l. w.0 ++ l) u.2 ∙ sym (append_assoc w.0 u.0 r),
      (u.0, refl, part_shorter w.0 u.0 r (subst (IsPart w.0) u.2 w.2), u.3),
    ))
    (next_sound (after_close t) (after_part t) (after_parts n) r h)

pub parts_complete : (n : ℕ) (body r : List ℕ) (parts : List (List ℕ)) → ArePartsOf body parts → length body ≤ n → after_parts n (body ++ r) ≡ Some r
parts_complete zero body r parts are short = absurd (omega (arith, length-parts body parts are))
parts_complete (suc n) body r [] are short = subst (λ l. after_parts (suc n) (l ++ r) ≡ Some r) (sym are) refl
parts_complete (suc n) body r (part ∷ parts) are short =
    let after : List ℕ = are.0 in
    let whole : body ++ r ≡ part ++ (after ++ r) = ap (λ l. l ++ r) are.1 ∙ append_assoc part after r in
    let is : IsPart part (after ++ r) = part_longer part after r (length-parts after parts are.3) are.2 in
    let smaller : length after ≤ n = omega (arith, ap length are.1, length-append part after, length-part part after are.2) in
    subst (λ l. after_parts (suc n) l ≡ Some r) (sym whole)
    (ap (λ (o : Option (List ℕ)). after_next o (after_part (part ++ (after ++ r))) (after_parts n)) (part_open part (after ++ r) is)
    ∙ ap (λ (o : Option (List ℕ)). after_next None o (after_parts n)) (part_complete part (after ++ r) is)
    ∙ parts_complete n after r parts are.3 smaller)

-- more steps change nothing
pub parts_steady : (n m : ℕ) (t r : List ℕ) → after_parts n t ≡ Some r → length t ≤ m → after_parts m t ≡ Some r
parts_steady n m t r h enough =
    let w = parts_sound n t r h in
    subst (λ l. after_parts m l ≡ Some r) (sym w.2)
    (parts_complete m w.0 r w.1 w.3 (omega (arith, ap length w.2, length-append w.0 r)))

pub attribute_sound : (t r : List ℕ) → after_attribute t ≡ Some r → (body : List ℕ) × (parts : List (List ℕ)) × (t ≡ body ++ r) × BeginsNot (λ b. b == 41) body × ArePartsOf body parts
attribute_sound [] r h = absurd (cc)
attribute_sound (b ∷ t) r h =
    ⊎_elim
    (λ close. absurd (cc))
    (λ on.
    let w = parts_sound (length (b ∷ t)) (b ∷ t) r on.1 in
    let not : BeginsNot (λ c. c == 41) (w.0 ++ r) = subst (BeginsNot (λ c. c == 41)) w.2 on.0 in
    (w.0, w.1, w.2, begins_shorter _ w.0 r not, w.3))
    (chosen _ _ _ _ h)

pub attribute_complete : (body r : List ℕ) (parts : List (List ℕ)) → BeginsNot (λ b. b == 41) body → ArePartsOf body parts → after_attribute (body ++ r) ≡ Some r
attribute_complete [] r parts not are = absurd (omega (arith, length-parts [] parts are))
attribute_complete (b ∷ body) r parts not are =
    cond_false (b == 41) _ _ not ∙ parts_complete (length (b ∷ body ++ r)) (b ∷ body) r parts are (omega (arith, length-append (b ∷ body) r))

-- enough steps are as good as more
parts_agree : (n m : ℕ) (t : List ℕ) (x y : Option (List ℕ)) → length t ≤ n → length t ≤ m → after_parts n t ≡ x → after_parts m t ≡ y → x ≡ y
parts_agree n m t None None enough plenty h k = refl
parts_agree n m t (Some r) y enough plenty h k = sym (parts_steady n m t r h plenty) ∙ k
parts_agree n m t None (Some r) enough plenty h k = sym h ∙ parts_steady m n t r k enough

parts_step : (n : ℕ) (t r : List ℕ) → length t ≡ n → after_close t ≡ None → after_part t ≡ Some r → after_parts n t ≡ after_parts (length r) r
parts_step zero t r n no_end h = absurd (let w = part_sound t r no_end h in omega (arith, ap length w.1, length-append w.0 r, length-part w.0 r w.2))
parts_step (suc n) t r is no_end h =
    let w = part_sound t r no_end h in
    ap (λ (o : Option (List ℕ)). after_next o (after_part t) (after_parts n)) no_end
    ∙ ap (λ (o : Option (List ℕ)). after_next None o (after_parts n)) h
    ∙ parts_agree n (length r) r _ _ (omega (arith, ap length w.1, length-append w.0 r, length-part w.0 r w.2)) (omega arith) refl refl

-- a part takes the attribute on
pub after_parts-part : (t r : List ℕ) → after_close t ≡ None → after_part t ≡ Some r → after_parts (length t) t ≡ after_parts (length r) r
after_parts-part t r no_end h = parts_step (length t) t r refl no_end h

-- less is left after a part
pub length-after_part : (t r : List ℕ) → after_close t ≡ None → after_part t ≡ Some r → length r < length t
length-after_part t r no_end h =
    let w = part_sound t r no_end h in
    omega (arith, ap length w.1, length-append w.0 r, length-part w.0 r w.2)

closed_with : (n : ℕ) (t r : List ℕ) → length t ≡ n → after_close t ≡ Some r → after_parts n t ≡ Some r
closed_with zero [] r is h = absurd (cc)
closed_with zero (b ∷ t) r is h = absurd (omega arith)
closed_with (suc n) t r is h = ap (λ (o : Option (List ℕ)). after_next o (after_part t) (after_parts n)) h

pub after_parts-close : (t r : List ℕ) → after_close t ≡ Some r → after_parts (length t) t ≡ Some r
after_parts-close t r h = closed_with (length t) t r refl h

stuck_with : (n : ℕ) (t : List ℕ) → after_close t ≡ None → after_part t ≡ None → after_parts n t ≡ None
stuck_with zero t no_end h = refl
stuck_with (suc n) t no_end h =
    ap (λ (o : Option (List ℕ)). after_next o (after_part t) (after_parts n)) no_end
    ∙ ap (λ (o : Option (List ℕ)). after_next None o (after_parts n)) h

pub after_parts-none : (t : List ℕ) → after_close t ≡ None → after_part t ≡ None → after_parts (length t) t ≡ None
after_parts-none t no_end h = stuck_with (length t) t no_end h

pub ruleset attribute_steps = (after_parts-part, length-after_part, after_parts-close, after_parts-none)
