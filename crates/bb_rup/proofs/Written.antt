-- What is written is read as it was: entry by entry, and each by its words.
use Rattle.std.proofs.Common.{◌≡◌, ℕ, ◌+◌, ◌≤◌, Bool, true, false, not, cond, Ok, Err, List, [], ◌∷◌, ◌++◌, length, filter, flat_map, All, codes, decimal, nat_le, append_assoc, append-nil, refl, sym, ap, ◌∙◌, ⊎_elim, arith, le-leb}
use Rattle.std.specs.List.{AllByRecursion}
use Rattle.std.proofs.lemmas.Bool.{cases_Bool, cond-true, cond-false, and_right, and_from, true≢false}
use Rattle.std.proofs.lemmas.List.{length-map}
use Rattle.std.proofs.lemmas.List.Elements.{All-head, All-tail}
use Rattle.bb_cnf.specs.declared.clauses.Lit.{Lit}
use Rattle.bb_cnf.specs.Clauses.{HasVariablesWithin}
use Rattle.bb_rup.specs.declared.fault.RupFault.TheVariants.{Literal}
use Rattle.bb_rup.specs.TextWords.{TextWord, words_of}
use Rattle.bb_rup.specs.Dimacs.{and_then, is_end, is_mark, within, literal_in, clauses_of, Sizes}
use Rattle.bb_rup.specs.Inside.Ahead.{words_ahead, literals_to_end, prepended}
use Rattle.bb_rup.specs.Inside.TableOfFaults.{BeginsWithHeader}
use Rattle.bb_rup.specs.Laws.Written.{Entry, comment_line, literal_text, entry_text, proof_text, formula_text, all_clauses, added_clauses, AreLines, HaveLines, WrittenLaws}
use Rattle.bb_rup.proofs.WordSteps.{word_on, ahead-start, ahead-end}
use Rattle.bb_rup.proofs.ClauseSteps.{kept, onward, clauses_of-clause, clauses_of-deletion}
use Rattle.bb_rup.proofs.FormulaTable.{formula_table}
use Rattle.bb_rup.proofs.WrittenWords.{IsWord, MayOccur, word_blank, word_newline, comments_ahead, IsShort, number-decimal, decimal_word, literal_word, IsLiteralWord, literal_written}

abbrev InRange : ℕ → Lit → Type 0
InRange vars l = (1 ≤ l.var) × (l.var ≤ vars)

-- the literals of a clause, its end, and what is after
abbrev literals_then : List Lit → List ℕ → List ℕ
literals_then lits rest = flat_map literal_text lits ++ (codes "0\n" ++ rest)

first_literal : (l : Lit) (lits : List Lit) (rest : List ℕ) → literals_then (l ∷ lits) rest ≡ literal_word l ++ 32 ∷ literals_then lits rest
first_literal l lits rest =
    append_assoc (literal_text l) (flat_map literal_text lits) (codes "0\n" ++ rest)
    ∙ append_assoc (literal_word l) (codes " ") (literals_then lits rest)

short_vars : (vars : ℕ) (l : Lit) → vars ≤ 8000000 → InRange vars l → IsLiteralWord l
short_vars vars l few range = literal_written l.neg l.var (omega (arith, few, range.1)) range.0

-- the word of a literal, or of an end
end_word : IsWord (codes "0")
end_word = record { some = omega arith; solid = (refl, tt) }

literal_ahead : (begun : Bool) (n vars : ℕ) (l : Lit) (lits : List Lit) (rest : List ℕ) → IsLiteralWord l
    → words_ahead begun n (literals_then (l ∷ lits) rest) ≡ word_on n (literal_word l) ∷ words_ahead true n (literals_then lits rest)
literal_ahead begun n vars l lits rest is =
    ap (words_ahead begun n) (first_literal l lits rest) ∙ word_blank begun n (literal_word l) (literals_then lits rest) is.is (λ h. is.no_comment)

end_ahead : (begun : Bool) (n : ℕ) (rest : List ℕ) → words_ahead begun n (literals_then [] rest) ≡ word_on n (codes "0") ∷ words_ahead false (n + 1) rest
end_ahead begun n rest = word_newline begun n (codes "0") rest end_word (λ h. refl)

literal_read : (vars line : ℕ) (l : Lit) → IsLiteralWord l → l.var ≤ vars → literal_in vars (word_on line (literal_word l)) ≡ Ok l
literal_read vars line l is range = ap (within vars line) is.reads ∙ cond-true (nat_le l.var vars) (Ok l) (Err (Literal line)) (le-leb l.var vars range)

literals_read : (begun : Bool) (n vars : ℕ) (lits done : List Lit) (rest : List ℕ) → vars ≤ 8000000 → All (InRange vars) lits
    → literals_to_end vars done (words_ahead begun n (literals_then lits rest)) ≡ Ok (done ++ lits, words_ahead false (n + 1) rest)
literals_read begun n vars [] done rest few range =
    ap (literals_to_end vars done) (end_ahead begun n rest) ∙ ap (λ lits. Ok (lits, words_ahead false (n + 1) rest)) (sym (append-nil done))
literals_read begun n vars (l ∷ lits) done rest few range =
    let here = All-head (InRange vars) l lits range in
    let is = short_vars vars l few here in
    let word : TextWord = word_on n (literal_word l) in
    let words = words_ahead true n (literals_then lits rest) in
    let next = λ (m : Lit). literals_to_end vars (done ++ m ∷ []) words in
    ap (literals_to_end vars done) (literal_ahead begun n vars l lits rest is)
    ∙ cond-false (is_end word) (Ok (done, words)) (and_then (literal_in vars word) next) is.no_end
    ∙ ap (λ r. and_then r next) (literal_read vars n l is here.1)
    ∙ literals_read true n vars lits (done ++ l ∷ []) rest few (All-tail (InRange vars) l lits range)
    ∙ ap (λ ls. Ok (ls, words_ahead false (n + 1) rest)) (append_assoc done (l ∷ []) lits)

-- a clause and what is after it
from_words : (deletions : Bool) (vars : ℕ) (words : List TextWord) (word : TextWord) (more : List TextWord) → words ≡ word ∷ more → is_mark word ≡ false
    → clauses_of deletions vars words ≡ and_then (literals_to_end vars [] words) (onward deletions vars true)
from_words deletions vars words word more e fails =
    ap (clauses_of deletions vars) e
    ∙ clauses_of-clause deletions vars word more (and_right deletions (is_mark word) fails)
    ∙ ap (λ ws. and_then (literals_to_end vars [] ws) (onward deletions vars true)) (sym e)

clause_begins : (deletions : Bool) (n vars : ℕ) (lits : List Lit) (rest : List ℕ) → vars ≤ 8000000 → All (InRange vars) lits
    → clauses_of deletions vars (words_ahead false n (literals_then lits rest))
    ≡ and_then (literals_to_end vars [] (words_ahead false n (literals_then lits rest))) (onward deletions vars true)
clause_begins deletions n vars [] rest few range = from_words deletions vars _ _ _ (end_ahead false n rest) refl
clause_begins deletions n vars (l ∷ lits) rest few range =
    let is = short_vars vars l few (All-head (InRange vars) l lits range) in
    from_words deletions vars _ _ _ (literal_ahead false n vars l lits rest is) is.no_mark

-- an entry without its comments
body_read : (deletions deletion : Bool) (n vars : ℕ) (lits : List Lit) (rest : List ℕ) → (deletion ≡ true → deletions ≡ true) → vars ≤ 8000000 → All (InRange vars) lits
    → clauses_of deletions vars (words_ahead false n (cond deletion (codes "d ") [] ++ literals_then lits rest))
    ≡ prepended (kept (not deletion) lits) (clauses_of deletions vars (words_ahead false (n + 1) rest))
body_read deletions false n vars lits rest allowed few range =
    clause_begins deletions n vars lits rest few range
    ∙ ap (λ r. and_then r (onward deletions vars true)) (literals_read false n vars lits [] rest few range)
body_read deletions true n vars lits rest allowed few range =
    let mark : TextWord = word_on n (codes "d") in
    let words = words_ahead true n (literals_then lits rest) in
    ap (clauses_of deletions vars) (word_blank false n (codes "d") (literals_then lits rest) (record { some = omega arith; solid = (refl, tt) }) (λ h. refl))
    ∙ clauses_of-deletion deletions vars mark words (and_from deletions (is_mark mark) (allowed refl) refl) refl
    ∙ ap (λ r. and_then r (onward deletions vars false)) (literals_read true n vars lits [] rest few range)

entry_parts : (a b c d rest : List ℕ) → a ++ b ++ c ++ d ++ rest ≡ a ++ (b ++ (c ++ (d ++ rest)))
entry_parts a b c d rest = append_assoc (a ++ b ++ c) d rest ∙ append_assoc (a ++ b) c (d ++ rest) ∙ append_assoc a b (c ++ (d ++ rest))

entry_read : (deletions : Bool) (n vars : ℕ) (entry : Entry) (rest : List ℕ) → AreLines entry.comments → (entry.deletion ≡ true → deletions ≡ true)
    → vars ≤ 8000000 → All (InRange vars) entry.clause
    → clauses_of deletions vars (words_ahead false n (entry_text entry ++ rest))
    ≡ prepended (kept (not entry.deletion) entry.clause) (clauses_of deletions vars (words_ahead false (n + length entry.comments + 1) rest))
entry_read deletions n vars entry rest lines allowed few range =
    let body = cond entry.deletion (codes "d ") [] ++ literals_then entry.clause rest in
    ap (λ text. clauses_of deletions vars (words_ahead false n text))
    (entry_parts (flat_map comment_line entry.comments) (cond entry.deletion (codes "d ") []) (flat_map literal_text entry.clause) (codes "0\n") rest)
    ∙ ap (clauses_of deletions vars) (comments_ahead n entry.comments body lines)
    ∙ body_read deletions entry.deletion (n + length entry.comments) vars entry.clause rest allowed few range

-- all entries
added_first : (entry : Entry) (entries : List Entry) → kept (not entry.deletion) entry.clause ++ added_clauses entries ≡ added_clauses (entry ∷ entries)
added_first entry entries =
    let more = filter (λ e. not e.deletion) entries in
    ⊎_elim
    (λ holds. ap (λ b. kept (not b) entry.clause ++ all_clauses more) holds ∙ ap (λ b. all_clauses (cond (not b) (entry ∷ more) more)) (sym holds))
    (λ fails. ap (λ b. kept (not b) entry.clause ++ all_clauses more) fails ∙ ap (λ b. all_clauses (cond (not b) (entry ∷ more) more)) (sym fails))
    (cases_Bool entry.deletion)

entries_read : (deletions : Bool) (n vars : ℕ) (entries : List Entry) (last : List (List ℕ)) → HaveLines entries → AreLines last
    → AllByRecursion (λ entry. entry.deletion ≡ true → deletions ≡ true) entries → vars ≤ 8000000 → HasVariablesWithin vars (all_clauses entries)
    → clauses_of deletions vars (words_ahead false n (proof_text entries last)) ≡ Ok (added_clauses entries)
entries_read deletions n vars [] last lines last_lines allowed few range =
    ap (λ text. clauses_of deletions vars (words_ahead false n text)) (sym (append-nil (flat_map comment_line last)))
    ∙ ap (clauses_of deletions vars) (comments_ahead n last [] last_lines ∙ ahead-end false (n + length last))
entries_read deletions n vars (entry ∷ entries) last lines last_lines allowed few range =
    let m : ℕ = n + length entry.comments + 1 in
    ap (λ text. clauses_of deletions vars (words_ahead false n text)) (append_assoc (entry_text entry) (flat_map entry_text entries) (flat_map comment_line last))
    ∙ entry_read deletions n vars entry (proof_text entries last) lines.0 allowed.0 few (All-head (All (InRange vars)) entry.clause (all_clauses entries) range)
    ∙ ap (prepended (kept (not entry.deletion) entry.clause))
    (entries_read deletions m vars entries last lines.1 last_lines allowed.1 few (All-tail (All (InRange vars)) entry.clause (all_clauses entries) range))
    ∙ ap Ok (added_first entry entries)

all_allowed : (entries : List Entry) → AllByRecursion (λ entry. entry.deletion ≡ true → ◌≡◌ {A = Bool} true true) entries
all_allowed [] = tt
all_allowed (entry ∷ entries) = (λ h. refl, all_allowed entries)

none_deleted : (entries : List Entry) → AllByRecursion (λ entry. entry.deletion ≡ false) entries → AllByRecursion (λ entry. entry.deletion ≡ true → ◌≡◌ {A = Bool} false true) entries
none_deleted [] none = tt
none_deleted (entry ∷ entries) none = (λ h. sym none.0 ∙ h, none_deleted entries none.1)

added_all : (entries : List Entry) → AllByRecursion (λ entry. entry.deletion ≡ false) entries → added_clauses entries ≡ all_clauses entries
added_all [] none = refl
added_all (entry ∷ entries) none =
    sym (added_first entry entries) ∙ ap (λ b. kept (not b) entry.clause ++ added_clauses entries) none.0 ∙ ap (λ clauses. entry.clause ∷ clauses) (added_all entries none.1)

-- the header
six_parts : (a b c d e f g : List ℕ) → a ++ b ++ c ++ d ++ e ++ f ++ g ≡ a ++ (b ++ (c ++ (d ++ (e ++ (f ++ g)))))
six_parts a b c d e f g =
    append_assoc (a ++ b ++ c ++ d ++ e) f g
    ∙ append_assoc (a ++ b ++ c ++ d) e (f ++ g)
    ∙ append_assoc (a ++ b ++ c) d (e ++ (f ++ g))
    ∙ append_assoc (a ++ b) c (d ++ (e ++ (f ++ g)))
    ∙ append_assoc a b (c ++ (d ++ (e ++ (f ++ g))))

-- after another word
may_follow : (word : List ℕ) → MayOccur true word
may_follow word h = absurd (true≢false h)

header_words : (n vars clauses : ℕ) (rest : List ℕ) → IsShort vars → IsShort clauses
    → words_ahead false n (codes "p cnf " ++ (decimal vars ++ (codes " " ++ (decimal clauses ++ (codes "\n" ++ rest)))))
    ≡ word_on n (codes "p") ∷ word_on n (codes "cnf") ∷ word_on n (decimal vars) ∷ word_on n (decimal clauses)
    ∷ words_ahead false (n + 1) rest
header_words n vars clauses rest few_vars few_clauses =
    let fourth = decimal clauses ++ 10 ∷ rest in
    let third = decimal vars ++ 32 ∷ fourth in
    let p : TextWord = word_on n (codes "p") in
    let cnf : TextWord = word_on n (codes "cnf") in
    let v : TextWord = word_on n (decimal vars) in
    word_blank false n (codes "p") (codes "cnf " ++ third) (record { some = omega arith; solid = (refl, tt) }) (λ h. refl)
    ∙ ap (λ words. p ∷ words) (word_blank true n (codes "cnf") third (record { some = omega arith; solid = (refl, (refl, (refl, tt))) }) (may_follow (codes "cnf")))
    ∙ ap (λ words. p ∷ cnf ∷ words) (word_blank true n (decimal vars) fourth (decimal_word vars few_vars) (may_follow (decimal vars)))
    ∙ ap (λ words. p ∷ cnf ∷ v ∷ words) (word_newline true n (decimal clauses) rest (decimal_word clauses few_clauses) (may_follow (decimal clauses)))

formula_words : (first : List (List ℕ)) (vars : ℕ) (entries : List Entry) (last : List (List ℕ)) → AreLines first → vars ≤ 8000000 → length entries ≤ 8000000
    → BeginsWithHeader (words_of (formula_text first vars entries last)) (record { vars = vars; clauses = length entries }) (words_ahead false (1 + length first + 1) (proof_text entries last))
formula_words first vars entries last lines few_vars few_entries =
    let n : ℕ = 1 + length first in
    let vars_short : IsShort vars = omega (arith, few_vars) in
    let entries_short : IsShort (length entries) = omega (arith, few_entries) in
    let rest = proof_text entries last in
    record {
      p = word_on n (codes "p");
      cnf = word_on n (codes "cnf");
      vars = word_on n (decimal vars);
      clauses = word_on n (decimal (length entries));
      splits = sym (ahead-start (formula_text first vars entries last))
          ∙ ap (words_ahead false 1) (six_parts (flat_map comment_line first) (codes "p cnf ") (decimal vars) (codes " ") (decimal (length entries)) (codes "\n") rest)
          ∙ comments_ahead 1 first _ lines
          ∙ header_words n vars (length entries) rest vars_short entries_short;
      header = record {
        first = refl;
        second = refl;
        variables = number-decimal vars vars_short;
        clause_number = number-decimal (length entries) entries_short;
        few_variables = few_vars;
        few_clauses = few_entries;
      };
    }

pub written_laws : WrittenLaws
written_laws = record {
  formula = λ first last vars entries first_lines lines last_lines none few_vars few_entries range.
      let sizes : Sizes = record { vars = vars; clauses = length entries } in
      formula_table.read (formula_text first vars entries last) sizes (words_ahead false (1 + length first + 1) (proof_text entries last)) (all_clauses entries)
      (formula_words first vars entries last first_lines few_vars few_entries)
      (entries_read false (1 + length first + 1) vars entries last lines last_lines (none_deleted entries none) few_vars range ∙ ap Ok (added_all entries none))
      (length-map entries (λ entry. entry.clause));
  additions = λ vars entries last lines last_lines few range.
      ap (clauses_of true vars) (sym (ahead-start (proof_text entries last)))
      ∙ entries_read true 1 vars entries last lines last_lines (all_allowed entries) few range;
}
