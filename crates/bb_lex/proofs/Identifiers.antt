-- The reading of identifiers and directives finds what the rules say, and no longer one begins there.
use Rattle.std.proofs.Common.{◌≡◌, ◌⊎◌, ℕ, ◌<◌, true, false, Some, None, List, [], ◌∷◌, ◌++◌, length, sym, refl, ap, ◌∙◌, subst, arith, ⊎_elim, inl, inr, append_assoc, append-nil}
use Rattle.std.specs.Prelude.{◌||◌, codes, bytes_eq}
use Rattle.std.specs.List.{list_all}
use Rattle.std.proofs.lemmas.Bool.Decides.{nat_tests}
use Rattle.std.proofs.lemmas.Slice.Eq.{bytes_eq-Decides}
use Rattle.bb_lex.specs.Bytes.{is_white, is_in_line, begins_identifier, is_identifier_byte, is_graphic, Each, BeginsNot, EndsBefore, past}
use Rattle.bb_lex.specs.Skips.{IsDirective}
use Rattle.bb_lex.specs.Pieces.{IsIdentifier, IsEscaped}
use Rattle.bb_lex.specs.Inside.Runs.{run_of}
use Rattle.bb_lex.specs.Inside.Skips.{is_directive, after_directive, at_white, after_escaped}
use Rattle.bb_lex.proofs.Choices.{chosen, cond_true, or_cases, each_from_test}
use Rattle.bb_lex.proofs.Runs.{run-past, each_of_run, past_stops, past-each, run-each, past-none, run-none}

same_bytes : (a b : List ℕ) → bytes_eq a b ≡ true → a ≡ b
same_bytes a b h = (bytes_eq-Decides a b).0 h

known_from_test : (word : List ℕ) → is_directive word ≡ true → (word ≡ codes "timescale") ⊎ ((word ≡ codes "celldefine") ⊎ (word ≡ codes "endcelldefine"))
known_from_test word h =
    ⊎_elim
    (λ two. ⊎_elim (λ one. inl (same_bytes word (codes "timescale") one)) (λ one. inr (inl (same_bytes word (codes "celldefine") one))) (or_cases _ _ two))
    (λ one. inr (inr (same_bytes word (codes "endcelldefine") one)))
    (or_cases (bytes_eq word (codes "timescale") || bytes_eq word (codes "celldefine")) (bytes_eq word (codes "endcelldefine")) h)

known_test : (word : List ℕ) → (word ≡ codes "timescale") ⊎ ((word ≡ codes "celldefine") ⊎ (word ≡ codes "endcelldefine")) → (is_directive word ≡ true) × (list_all is_identifier_byte word ≡ true)
known_test word h =
    let P : List ℕ → Type 0 = λ w. (is_directive w ≡ true) × (list_all is_identifier_byte w ≡ true) in
    ⊎_elim (λ e. subst P (sym e) (refl, refl)) (λ more. ⊎_elim (λ e. subst P (sym e) (refl, refl)) (λ e. subst P (sym e) (refl, refl)) more) h

-- a directive, its back quote first
pub directive_sound : (t r : List ℕ) → after_directive t ≡ Some r → (prefix : List ℕ) × (t ≡ prefix ++ r) × IsDirective (96 ∷ prefix) r
directive_sound t r h =
    let word : List ℕ = run_of is_identifier_byte t in
    let rest : List ℕ = past is_identifier_byte t in
    let line : List ℕ = run_of is_in_line rest in
    ⊎_elim
    (λ yes.
    let e : past is_in_line rest ≡ r = cc in
    let ends : line ++ r ≡ rest = ap (λ l. line ++ l) (sym e) ∙ run-past is_in_line rest in (
      word ++ line,
      sym (append_assoc word line r ∙ ap (λ l. word ++ l) ends ∙ run-past is_identifier_byte t),
      record {
        word = word;
        line = line;
        known = known_from_test word yes.0;
        opens = refl;
        in_line = each_of_run is_in_line rest;
        whole = subst (BeginsNot is_identifier_byte) (sym ends) (past_stops is_identifier_byte t);
      },
    ))
    (λ not. absurd (cc))
    (chosen (is_directive word) (Some (past is_in_line rest)) None (Some r) h)

-- a directive is read with the rest of its line
pub directive_complete : (prefix after : List ℕ) → IsDirective (96 ∷ prefix) after → after_directive (prefix ++ after) ≡ Some (past is_in_line after)
directive_complete prefix after is =
    let tests = known_test is.word is.known in
    let made : prefix ≡ is.word ++ is.line = cc in
    let whole : prefix ++ after ≡ is.word ++ (is.line ++ after) = ap (λ l. l ++ after) made ∙ append_assoc is.word is.line after in
    let each : Each is_identifier_byte is.word = each_from_test is_identifier_byte is.word tests.1 in
    let word : run_of is_identifier_byte (prefix ++ after) ≡ is.word = ap (run_of is_identifier_byte) whole ∙ run-each is_identifier_byte is.word (is.line ++ after) each ∙ ap (λ l. is.word ++ l) (run-none is_identifier_byte (is.line ++ after) is.whole) ∙ append-nil is.word in
    let rest : past is_identifier_byte (prefix ++ after) ≡ is.line ++ after = ap (past is_identifier_byte) whole ∙ past-each is_identifier_byte is.word (is.line ++ after) each ∙ past-none is_identifier_byte (is.line ++ after) is.whole in
    cond_true (is_directive (run_of is_identifier_byte (prefix ++ after))) (Some (past is_in_line (past is_identifier_byte (prefix ++ after)))) None (ap is_directive word ∙ tests.0)
    ∙ ap (λ l. Some (past is_in_line l)) rest
    ∙ ap Some (past-each is_in_line is.line after is.in_line)

white_ends : (r s : List ℕ) → at_white r ≡ Some s → (r ≡ s) × EndsBefore is_white r
white_ends [] s h = (cc, tt)
white_ends (b ∷ r) s h = ⊎_elim (λ yes. ((let e : Some (b ∷ r) ≡ Some s = yes.1 in cc), yes.0)) (λ not. absurd (cc)) (chosen (is_white b) (Some (b ∷ r)) None (Some s) h)

at_white-ends : (r : List ℕ) → EndsBefore is_white r → at_white r ≡ Some r
at_white-ends [] ends = refl
at_white-ends (b ∷ r) ends = cond_true (is_white b) (Some (b ∷ r)) None ends

white_not_graphic : (b : ℕ) → is_white b ≡ true → is_graphic b ≡ false
white_not_graphic b white = grind (arith, nat_tests)

ends_not_graphic : (r : List ℕ) → EndsBefore is_white r → BeginsNot is_graphic r
ends_not_graphic [] ends = tt
ends_not_graphic (b ∷ r) ends = white_not_graphic b ends

-- an escaped identifier, its backslash first
pub escaped_sound : (t r : List ℕ) → after_escaped t ≡ Some r → (prefix : List ℕ) × (t ≡ prefix ++ r) × IsEscaped (92 ∷ prefix) r
escaped_sound [] r h = absurd (cc)
escaped_sound (b ∷ t) r h =
    ⊎_elim
    (λ yes.
    let w = white_ends (past is_graphic t) r yes.1 in (
      b ∷ run_of is_graphic t,
      ap (λ l. b ∷ l) (sym (ap (λ l. run_of is_graphic t ++ l) (sym w.0) ∙ run-past is_graphic t)),
      record {
        name = b ∷ run_of is_graphic t;
        opens = refl;
        some = omega arith;
        graphic = (yes.0, each_of_run is_graphic t);
        whole = subst (EndsBefore is_white) w.0 w.1;
      },
    ))
    (λ not. absurd (cc))
    (chosen (is_graphic b) (at_white (past is_graphic t)) None (Some r) h)

escaped_read : (name after : List ℕ) → 0 < length name → Each is_graphic name → EndsBefore is_white after → after_escaped (name ++ after) ≡ Some after
escaped_read [] after some each ends = absurd (omega arith)
escaped_read (b ∷ name) after some each ends =
    cond_true (is_graphic b) (at_white (past is_graphic (name ++ after))) None each.0
    ∙ ap at_white (past-each is_graphic name after each.1 ∙ past-none is_graphic after (ends_not_graphic after ends))
    ∙ at_white-ends after ends

pub escaped_complete : (prefix after : List ℕ) → IsEscaped (92 ∷ prefix) after → after_escaped (prefix ++ after) ≡ Some after
escaped_complete prefix after is =
    let made : is.name ≡ prefix = cc in
    subst (λ l. after_escaped (l ++ after) ≡ Some after) made (escaped_read is.name after is.some is.graphic is.whole)

begins_is_byte : (b : ℕ) → begins_identifier b ≡ true → is_identifier_byte b ≡ true
begins_is_byte b begins = grind (arith, nat_tests)

-- the run that an identifier's first byte opens is an identifier
pub identifier_sound : (b : ℕ) (t : List ℕ) → begins_identifier b ≡ true → IsIdentifier (run_of is_identifier_byte (b ∷ t))
identifier_sound b t begins =
    subst IsIdentifier (sym (cond_true (is_identifier_byte b) (b ∷ run_of is_identifier_byte t) [] (begins_is_byte b begins))) (begins, each_of_run is_identifier_byte t)

pub each_of_identifier : (bytes : List ℕ) → IsIdentifier bytes → Each is_identifier_byte bytes
each_of_identifier [] is = absurd is
each_of_identifier (b ∷ bytes) is = (begins_is_byte b is.0, is.1)
