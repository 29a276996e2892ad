-- Each row of the table of faults, by one pass over the words: a word is an end, the `d` of a deletion, or taken as a
-- literal; and what the words after it have is what they have from there on.
use Rattle.std.proofs.Common.{◌≡◌, ◌⊎◌, ℕ, ◌<◌, ◌≤◌, Bool, true, false, ◌&&◌, ◌||◌, Option, Some, None, Result, Ok, Err, MatchResult, List, [], ◌∷◌, ◌++◌, nat_le, refl, sym, ap, ◌∙◌, subst, inl, inr, ⊎_elim, arith, true≢false, leb-true, leb-false}
use Rattle.std.proofs.lemmas.Option.{same_Some}
use Rattle.std.proofs.lemmas.Bool.{cases_Bool, cond-true, cond-false, or_left, or_right, or_from}
use Rattle.bb_lemmas.proofs.Bits.{and_right}
use Rattle.bb_cnf.specs.declared.clauses.Lit.{Lit}
use Rattle.bb_rup.specs.declared.fault.RupFault.{RupFault}
use Rattle.bb_rup.specs.declared.fault.RupFault.TheVariants.{Token, Literal, Unclosed}
use Rattle.bb_rup.specs.TextWords.{TextWord}
use Rattle.bb_rup.specs.Numerals.{literal_of}
use Rattle.bb_rup.specs.Dimacs.{and_then, is_end, is_mark, within, literal_in, clauses_of}
use Rattle.bb_rup.specs.Inside.Ahead.{literals_to_end, prepended}
use Rattle.bb_rup.specs.Inside.TableOfFaults.{is_sign, IsSound, IsFault, AreSound, IsFirstFault, is_closed, ClauseTable, IsNoLiteral, IsAbove}
use Rattle.bb_rup.proofs.ClauseSteps.{and_then-assoc, Clauses, kept, onward, clauses_of-clause, clauses_of-deletion, mark_is_no_end}

-- a literal that a word says, or its fault
abbrev IsLiteralFault : ℕ → TextWord → RupFault → Type 0
IsLiteralFault vars word fault =
    ((literal_of word.bytes ≡ None) × (fault ≡ Token word.line))
    ⊎ ((l : Lit) × (literal_of word.bytes ≡ Some l) × (vars < l.var) × (fault ≡ Literal word.line))

abbrev IsLiteralAnswer : ℕ → TextWord → Result Lit RupFault → Type 0
IsLiteralAnswer vars word r = MatchResult r (λ l. (l : Lit) × (literal_of word.bytes ≡ Some l) × (l.var ≤ vars)) (IsLiteralFault vars word)

literal_reported : (vars : ℕ) (word : TextWord) (found : Option Lit) → literal_of word.bytes ≡ found → IsLiteralAnswer vars word (within vars word.line found)
literal_reported vars word None is = inl (is, refl)
literal_reported vars word (Some l) is =
    ⊎_elim
    (λ holds. subst (IsLiteralAnswer vars word) (sym (cond-true (nat_le l.var vars) (Ok l) (Err (Literal word.line)) holds)) (l, is, leb-true l.var vars holds))
    (λ fails. subst (IsLiteralAnswer vars word) (sym (cond-false (nat_le l.var vars) (Ok l) (Err (Literal word.line)) fails)) (inr (l, is, leb-false l.var vars fails, refl)))
    (cases_Bool (nat_le l.var vars))

-- the last word is an end; where there is none, this answer
abbrev ends : Bool → List TextWord → Bool
ends begins [] = begins
ends begins (word ∷ words) = ends (is_end word) words

ends_is : (begins : Bool) (word : TextWord) (words : List TextWord) → ends begins (word ∷ words) ≡ is_closed (word ∷ words)
ends_is begins word [] = refl
ends_is begins word (next ∷ words) = ends_is (is_end word) next words

closed_is : (words : List TextWord) → ends true words ≡ is_closed words
closed_is [] = refl
closed_is (word ∷ words) = ends_is true word words

-- what is reported of words: clauses, or the fault of the row
abbrev IsReported : {A : Type 0} → Bool → ℕ → Bool → List TextWord → Result A RupFault → Type 0
IsReported deletions vars begins words answer = MatchResult answer
    (λ clauses. AreSound deletions vars begins words × (ends begins words ≡ true))
    (λ fault. IsFirstFault deletions vars begins words fault ⊎ ((fault ≡ Unclosed) × AreSound deletions vars begins words × (ends begins words ≡ false)))

-- after a sound word the words say the same
reported_after : {A : Type 0} (deletions : Bool) (vars : ℕ) (begins : Bool) (word : TextWord) (words : List TextWord) (answer : Result A RupFault)
    → IsSound deletions vars begins word → IsReported deletions vars (is_end word) words answer → IsReported deletions vars begins (word ∷ words) answer
reported_after deletions vars begins word words (Ok x) sound reported = ((sound, reported.0), reported.1)
reported_after deletions vars begins word words (Err e) sound reported =
    ⊎_elim (λ first. inl (inr (sound, first))) (λ unclosed. inr (unclosed.0, (sound, unclosed.1), unclosed.2)) reported

-- a fault is passed on, and clauses may be added
reported_then : {A B : Type 0} (deletions : Bool) (vars : ℕ) (begins : Bool) (words : List TextWord) (answer : Result A RupFault) (next : A → B)
    → IsReported deletions vars begins words answer → IsReported deletions vars begins words (and_then answer (λ x. Ok (next x)))
reported_then deletions vars begins words (Ok x) next reported = reported
reported_then deletions vars begins words (Err e) next reported = reported

-- the rest of an entry
rest_of : Bool → ℕ → Bool → List Lit → List TextWord → Result Clauses RupFault
rest_of deletions vars keep lits words = and_then (literals_to_end vars lits words) (onward deletions vars keep)

rest_end : (deletions : Bool) (vars : ℕ) (keep : Bool) (lits : List Lit) (word : TextWord) (words : List TextWord) → is_end word ≡ true
    → rest_of deletions vars keep lits (word ∷ words) ≡ prepended (kept keep lits) (clauses_of deletions vars words)
unfolding rest_of
rest_end deletions vars keep lits word words holds = ap (λ r. and_then r (onward deletions vars keep)) (cond-true (is_end word) (Ok (lits, words)) _ holds)

rest_literal : (deletions : Bool) (vars : ℕ) (keep : Bool) (lits : List Lit) (word : TextWord) (words : List TextWord) → is_end word ≡ false
    → rest_of deletions vars keep lits (word ∷ words) ≡ and_then (literal_in vars word) (λ l. rest_of deletions vars keep (lits ++ l ∷ []) words)
unfolding rest_of
rest_literal deletions vars keep lits word words fails =
    let next = λ (l : Lit). literals_to_end vars (lits ++ l ∷ []) words in
    ap (λ r. and_then r (onward deletions vars keep)) (cond-false (is_end word) (Ok (lits, words)) (and_then (literal_in vars word) next) fails)
    ∙ and_then-assoc (literal_in vars word) next (onward deletions vars keep)

rest_none : (deletions : Bool) (vars : ℕ) (keep : Bool) (lits : List Lit) → rest_of deletions vars keep lits [] ≡ Err Unclosed
unfolding rest_of
rest_none deletions vars keep lits = refl

from_deletion : (deletions : Bool) (vars : ℕ) (word : TextWord) (words : List TextWord) → (deletions && is_mark word) ≡ true → is_mark word ≡ true
    → clauses_of deletions vars (word ∷ words) ≡ rest_of deletions vars false [] words
unfolding rest_of
from_deletion deletions vars word words holds mark = clauses_of-deletion deletions vars word words holds mark

from_clause : (deletions : Bool) (vars : ℕ) (word : TextWord) (words : List TextWord) → (deletions && is_mark word) ≡ false
    → clauses_of deletions vars (word ∷ words) ≡ rest_of deletions vars true [] (word ∷ words)
unfolding rest_of
from_clause deletions vars word words fails = clauses_of-clause deletions vars word words fails

-- whether a word is a sign
sign_is_end : (d e m : Bool) → e ≡ false → (e || (d && false && m)) ≡ false
sign_is_end true e m h = or_from e false h refl
sign_is_end false e m h = or_from e false h refl

sign_is_mark : (d e m : Bool) → (d && m) ≡ true → (e || (d && true && m)) ≡ true
sign_is_mark true e m h = or_right e m h
sign_is_mark false e m h = absurd (true≢false (sym h))

sign_is_none : (d e m : Bool) → e ≡ false → (d && m) ≡ false → (e || (d && true && m)) ≡ false
sign_is_none true e m h k = or_from e m h k
sign_is_none false e m h k = or_from e false h refl

-- a word that is taken as a literal
fault_of_literal : (deletions : Bool) (vars : ℕ) (begins : Bool) (word : TextWord) (fault : RupFault) → is_sign deletions begins word ≡ false → IsLiteralFault vars word fault
    → IsFault deletions vars begins word fault
fault_of_literal deletions vars begins word fault fails is = ⊎_elim (λ none. IsNoLiteral fails none.0 none.1) (λ above. IsAbove fails above.0 above.1 above.2 above.3) is

abbrev RestReported : Bool → ℕ → List TextWord → Type 0
RestReported deletions vars words = (keep : Bool) (lits : List Lit) → IsReported deletions vars false words (rest_of deletions vars keep lits words)

reported_literal : (deletions : Bool) (vars : ℕ) (begins keep : Bool) (lits : List Lit) (word : TextWord) (words : List TextWord) (first : Result Lit RupFault)
    → is_sign deletions begins word ≡ false → is_end word ≡ false → IsLiteralAnswer vars word first → RestReported deletions vars words
    → IsReported deletions vars begins (word ∷ words) (and_then first (λ l. rest_of deletions vars keep (lits ++ l ∷ []) words))
reported_literal deletions vars begins keep lits word words (Ok l) fails other is rest =
    let reported = rest keep (lits ++ l ∷ []) in
    reported_after deletions vars begins word words _ (inr is) (subst (λ b. IsReported deletions vars b words (rest_of deletions vars keep (lits ++ l ∷ []) words)) (sym other) reported)
reported_literal deletions vars begins keep lits word words (Err e) fails other is rest = inl (inl (fault_of_literal deletions vars begins word e fails is))

-- what is reported from a word on that is no mark of a deletion
reported_rest : (deletions : Bool) (vars : ℕ) (begins keep : Bool) (lits : List Lit) (word : TextWord) (words : List TextWord)
    → (is_end word ≡ false → is_sign deletions begins word ≡ false)
    → IsReported deletions vars true words (clauses_of deletions vars words) → RestReported deletions vars words
    → IsReported deletions vars begins (word ∷ words) (rest_of deletions vars keep lits (word ∷ words))
reported_rest deletions vars begins keep lits word words no_sign clauses rest =
    ⊎_elim
    (λ holds.
    let after = subst (λ b. IsReported deletions vars b words (clauses_of deletions vars words)) (sym holds) clauses in
    let sound : IsSound deletions vars begins word = inl (or_left (is_end word) _ holds) in
    subst (IsReported deletions vars begins (word ∷ words)) (sym (rest_end deletions vars keep lits word words holds))
    (reported_then deletions vars begins (word ∷ words) (clauses_of deletions vars words) (λ more. kept keep lits ++ more)
    (reported_after deletions vars begins word words (clauses_of deletions vars words) sound after)))
    (λ other.
    subst (IsReported deletions vars begins (word ∷ words)) (sym (rest_literal deletions vars keep lits word words other))
    (reported_literal deletions vars begins keep lits word words (literal_in vars word) (no_sign other) other (literal_reported vars word (literal_of word.bytes) refl) rest))
    (cases_Bool (is_end word))

reported_both : (deletions : Bool) (vars : ℕ) (words : List TextWord) → IsReported deletions vars true words (clauses_of deletions vars words) × RestReported deletions vars words
reported_both deletions vars [] = (
  (tt, refl),
  λ keep lits. subst (IsReported deletions vars false []) (sym (rest_none deletions vars keep lits)) (inr (refl, tt, refl)),
)
reported_both deletions vars (word ∷ words) =
    let after = reported_both deletions vars words in
    let mark = is_mark word in (
      ⊎_elim
          (λ holds.
          let other : is_end word ≡ false = mark_is_no_end word (and_right deletions mark holds) in
          let reported = subst (λ b. IsReported deletions vars b words (rest_of deletions vars false [] words)) (sym other) (after.1 false []) in
          subst (IsReported deletions vars true (word ∷ words)) (sym (from_deletion deletions vars word words holds (and_right deletions mark holds)))
          (reported_after deletions vars true word words (rest_of deletions vars false [] words) (inl (sign_is_mark deletions (is_end word) mark holds)) reported))
          (λ fails.
          subst (IsReported deletions vars true (word ∷ words)) (sym (from_clause deletions vars word words fails))
          (reported_rest deletions vars true true [] word words (λ other. sign_is_none deletions (is_end word) mark other fails) after.0 after.1))
          (cases_Bool (deletions && mark)),
      λ keep lits. reported_rest deletions vars false keep lits word words (λ other. sign_is_end deletions (is_end word) mark other) after.0 after.1,
    )

reported_clauses : (deletions : Bool) (vars : ℕ) (words : List TextWord) → MatchResult (clauses_of deletions vars words)
    (λ clauses. AreSound deletions vars true words × (is_closed words ≡ true))
    (λ fault. IsFirstFault deletions vars true words fault ⊎ ((fault ≡ Unclosed) × AreSound deletions vars true words × (is_closed words ≡ false)))
reported_clauses deletions vars words =
    subst (λ b. MatchResult (clauses_of deletions vars words)
    (λ clauses. AreSound deletions vars true words × (b ≡ true))
    (λ fault. IsFirstFault deletions vars true words fault ⊎ ((fault ≡ Unclosed) × AreSound deletions vars true words × (b ≡ false))))
    (closed_is words) (reported_both deletions vars words).0

-- the rows exclude each other
not_sound : (deletions : Bool) (vars : ℕ) (begins : Bool) (word : TextWord) (fault : RupFault) → IsFault deletions vars begins word fault → IsSound deletions vars begins word → ⊥
not_sound deletions vars begins word fault (IsNoLiteral fails none is) sound =
    ⊎_elim (λ sign. true≢false (sym sign ∙ fails)) (λ found. absurd (cc)) sound
not_sound deletions vars begins word fault (IsAbove fails l some above is) sound =
    ⊎_elim (λ sign. true≢false (sym sign ∙ fails)) (λ found. let same = same_Some l found.0 (sym some ∙ found.1) in omega (arith, above, found.2, ap (λ m. m.var) same)) sound

one_fault : (deletions : Bool) (vars : ℕ) (begins : Bool) (word : TextWord) (first second : RupFault) → IsFault deletions vars begins word first → IsFault deletions vars begins word second → first ≡ second
one_fault deletions vars begins word first second (IsNoLiteral fails none is) (IsNoLiteral fails' none' is') = is ∙ sym is'
one_fault deletions vars begins word first second (IsNoLiteral fails none is) (IsAbove fails' l some above is') = absurd (cc)
one_fault deletions vars begins word first second (IsAbove fails l some above is) (IsNoLiteral fails' none is') = absurd (cc)
one_fault deletions vars begins word first second (IsAbove fails l some above is) (IsAbove fails' l' some' above' is') = is ∙ sym is'

no_first_fault : (deletions : Bool) (vars : ℕ) (begins : Bool) (words : List TextWord) (fault : RupFault) → IsFirstFault deletions vars begins words fault → AreSound deletions vars begins words → ⊥
no_first_fault deletions vars begins [] fault first sound = first
no_first_fault deletions vars begins (word ∷ words) fault first sound =
    ⊎_elim (λ here. not_sound deletions vars begins word fault here sound.0) (λ later. no_first_fault deletions vars (is_end word) words fault later.1 sound.1) first

one_first_fault : (deletions : Bool) (vars : ℕ) (begins : Bool) (words : List TextWord) (first second : RupFault)
    → IsFirstFault deletions vars begins words first → IsFirstFault deletions vars begins words second → first ≡ second
one_first_fault deletions vars begins [] first second here there = absurd here
one_first_fault deletions vars begins (word ∷ words) first second here there =
    ⊎_elim
    (λ h. ⊎_elim (λ k. one_fault deletions vars begins word first second h k) (λ k. absurd (not_sound deletions vars begins word first h k.0)) there)
    (λ h. ⊎_elim (λ k. absurd (not_sound deletions vars begins word second k h.0)) (λ k. one_first_fault deletions vars (is_end word) words first second h.1 k.1) there)
    here

word_row : (deletions : Bool) (vars : ℕ) (words : List TextWord) (fault : RupFault) (answer : Result Clauses RupFault) → IsFirstFault deletions vars true words fault
    → MatchResult answer (λ clauses. AreSound deletions vars true words × (is_closed words ≡ true))
    (λ found. IsFirstFault deletions vars true words found ⊎ ((found ≡ Unclosed) × AreSound deletions vars true words × (is_closed words ≡ false)))
    → answer ≡ Err fault
word_row deletions vars words fault (Ok x) first reported = absurd (no_first_fault deletions vars true words fault first reported.0)
word_row deletions vars words fault (Err e) first reported =
    ⊎_elim (λ here. ap Err (one_first_fault deletions vars true words e fault here first)) (λ unclosed. absurd (no_first_fault deletions vars true words fault first unclosed.1)) reported

unclosed_row : (deletions : Bool) (vars : ℕ) (words : List TextWord) (answer : Result Clauses RupFault) → AreSound deletions vars true words → is_closed words ≡ false
    → MatchResult answer (λ clauses. AreSound deletions vars true words × (is_closed words ≡ true))
    (λ found. IsFirstFault deletions vars true words found ⊎ ((found ≡ Unclosed) × AreSound deletions vars true words × (is_closed words ≡ false)))
    → answer ≡ Err Unclosed
unclosed_row deletions vars words (Ok x) sound not_closed reported = absurd (true≢false (sym reported.1 ∙ not_closed))
unclosed_row deletions vars words (Err e) sound not_closed reported =
    ⊎_elim (λ here. absurd (no_first_fault deletions vars true words e here sound)) (λ is. ap Err is.0) reported

pub clause_table : ClauseTable
clause_table = record {
  word = λ deletions vars words fault first. word_row deletions vars words fault (clauses_of deletions vars words) first (reported_clauses deletions vars words);
  unclosed = λ deletions vars words sound not_closed. unclosed_row deletions vars words (clauses_of deletions vars words) sound not_closed (reported_clauses deletions vars words);
  reported = reported_clauses;
}
