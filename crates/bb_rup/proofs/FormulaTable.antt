-- The rows of the table of faults for a text with a header.
use Rattle.std.proofs.Common.{false, inr, inl, subst, ◌≡◌, ◌⊎◌, ℕ, ◌==◌, ◌≤◌, Bool, true, ◌&&◌, cond, Option, Some, None, option_map, option_and_then, Result, Ok, Err, List, [], ◌∷◌, length, codes, bytes_eq, nat_le, refl, sym, ap, ◌∙◌, ⊎_elim, leb-true, le-leb, eq-eqb, ne_eqb, eqb-true}
use Rattle.std.proofs.lemmas.Bool.{eqb-false, cases_Bool, cond-true, cond-false, and_from, and_parts}
use Rattle.std.proofs.lemmas.Option.{none-some, same_Some, some_pair_parts}
use Rattle.std.proofs.lemmas.Slice.Eq.{bytes_eq-Decides}
use Rattle.bb_cnf.specs.declared.clauses.Lit.{Lit}
use Rattle.bb_cnf.specs.Clauses.{Formula}
use Rattle.bb_rup.specs.declared.fault.RupFault.{RupFault}
use Rattle.bb_rup.specs.declared.fault.RupFault.TheVariants.{Count}
use Rattle.bb_rup.specs.TextWords.{TextWord, words_of}
use Rattle.bb_rup.specs.Numerals.{numeral_value}
use Rattle.bb_rup.specs.Dimacs.{and_then, clauses_of, Sizes, size_of, sizes_of, header_of, first_line, formula_after, dimacs_of}
use Rattle.bb_rup.specs.Inside.TableOfFaults.{IsHeader, BeginsWithHeader, HasNoHeader, IsFaultAfter, IsReportedFormula, FormulaTable}

-- a number of a header
size-known : (word : List ℕ) (n : ℕ) → numeral_value word ≡ Some n → n ≤ 8000000 → size_of word ≡ Some n
size-known word n is few = ap (option_and_then (λ m. cond (nat_le m 8000000) (Some m) None)) is ∙ cond-true (nat_le n 8000000) (Some n) None (le-leb n 8000000 few)

size_within : (limit : ℕ) (found : Option ℕ) (n : ℕ) → option_and_then (λ m. cond (nat_le m limit) (Some m) None) found ≡ Some n → (found ≡ Some n) × (n ≤ limit)
size_within limit None n h = absurd (cc)
size_within limit (Some m) n h =
    ⊎_elim
    (λ holds. let e : ◌≡◌ {A = Option ℕ} (Some m) (Some n) = sym (cond-true (nat_le m limit) (Some m) None holds) ∙ h in
    (e, subst (λ k. k ≤ limit) (same_Some m n e) (leb-true m limit holds)))
    (λ fails. absurd (none-some n (sym (cond-false (nat_le m limit) (Some m) None fails) ∙ h)))
    (cases_Bool (nat_le m limit))

-- a header is found where there is one
header-known : (p cnf vars clauses : TextWord) (sizes : Sizes) → IsHeader p cnf vars clauses sizes → sizes_of p cnf vars clauses ≡ Some sizes
header-known p cnf vars clauses sizes is =
    let words : (bytes_eq p.bytes (codes "p") && bytes_eq cnf.bytes (codes "cnf")) ≡ true =
    and_from _ _ (ap (λ w. bytes_eq w (codes "p")) is.first) (ap (λ w. bytes_eq w (codes "cnf")) is.second) in
    cond-true (bytes_eq p.bytes (codes "p") && bytes_eq cnf.bytes (codes "cnf")) _ None words
    ∙ ap (option_and_then (λ v. option_map (λ k. record { vars = v; clauses = k }) (size_of clauses.bytes))) (size-known vars.bytes sizes.vars is.variables is.few_variables)
    ∙ ap (option_map (λ k. record { vars = sizes.vars; clauses = k })) (size-known clauses.bytes sizes.clauses is.clause_number is.few_clauses)

pub found_header : (words : List TextWord) (sizes : Sizes) (more : List TextWord) → BeginsWithHeader words sizes more → header_of words ≡ Some (sizes, more)
found_header words sizes more begins =
    ap header_of begins.splits ∙ ap (option_map (λ s. (s, more))) (header-known begins.p begins.cnf begins.vars begins.clauses sizes begins.header)

-- and nothing else is found
same_word : (a b : List ℕ) → bytes_eq a b ≡ true → a ≡ b
same_word a b h = (bytes_eq-Decides a b).0 h

sizes_found : (vars clauses : Option ℕ) (sizes : Sizes) → option_and_then (λ v. option_map (λ k. record { vars = v; clauses = k }) clauses) vars ≡ Some sizes
    → (vars ≡ Some sizes.vars) × (clauses ≡ Some sizes.clauses)
sizes_found None clauses sizes h = absurd (cc)
sizes_found (Some v) None sizes h = absurd (cc)
sizes_found (Some v) (Some k) sizes h =
    let found : Sizes = record { vars = v; clauses = k } in
    let same = same_Some found sizes h in
    (ap (λ s. Some s.vars) same, ap (λ s. Some s.clauses) same)

header_found : (p cnf vars clauses : TextWord) (sizes : Sizes) → sizes_of p cnf vars clauses ≡ Some sizes → IsHeader p cnf vars clauses sizes
header_found p cnf vars clauses sizes h =
    let first : Bool = bytes_eq p.bytes (codes "p") in
    let second : Bool = bytes_eq cnf.bytes (codes "cnf") in
    let numbers = option_and_then (λ v. option_map (λ k. record { vars = v; clauses = k }) (size_of clauses.bytes)) (size_of vars.bytes) in
    ⊎_elim
    (λ holds.
    let words = and_parts first second holds in
    let found = sizes_found (size_of vars.bytes) (size_of clauses.bytes) sizes (sym (cond-true (first && second) numbers None holds) ∙ h) in
    let v = size_within 8000000 (numeral_value vars.bytes) sizes.vars found.0 in
    let k = size_within 8000000 (numeral_value clauses.bytes) sizes.clauses found.1 in
    record {
      first = same_word p.bytes (codes "p") words.0;
      second = same_word cnf.bytes (codes "cnf") words.1;
      variables = v.0;
      clause_number = k.0;
      few_variables = v.1;
      few_clauses = k.1;
    })
    (λ fails. absurd (none-some sizes (sym (cond-false (first && second) numbers None fails) ∙ h)))
    (cases_Bool (first && second))

pair_found : (found : Option Sizes) (words : List TextWord) (sizes : Sizes) (more : List TextWord) → option_map {U = Sizes × List TextWord} (λ s. (s, words)) found ≡ Some (sizes, more) → (found ≡ Some sizes) × (words ≡ more)
pair_found None words sizes more h = absurd (cc)
pair_found (Some s) words sizes more h =
    let same = some_pair_parts s sizes words more h in
    (ap Some same.0, same.1)

pub begins_if : (words : List TextWord) (sizes : Sizes) (more : List TextWord) → header_of words ≡ Some (sizes, more) → BeginsWithHeader words sizes more
begins_if [] sizes more h = absurd (cc)
begins_if (p ∷ []) sizes more h = absurd (cc)
begins_if (p ∷ cnf ∷ []) sizes more h = absurd (cc)
begins_if (p ∷ cnf ∷ vars ∷ []) sizes more h = absurd (cc)
begins_if (p ∷ cnf ∷ vars ∷ clauses ∷ words) sizes more h =
    let found = pair_found (sizes_of p cnf vars clauses) words sizes more h in
    record {
      p = p;
      cnf = cnf;
      vars = vars;
      clauses = clauses;
      splits = ap (λ rest. p ∷ cnf ∷ vars ∷ clauses ∷ rest) found.1;
      header = header_found p cnf vars clauses sizes found.0;
    }

-- a text's header
abbrev HasOne : List TextWord → Type 0
HasOne words = (sizes : Sizes) × (more : List TextWord) × BeginsWithHeader words sizes more

which : (words : List TextWord) (found : Option (Sizes × List TextWord)) → header_of words ≡ found → HasOne words ⊎ ((header_of words ≡ None) × HasNoHeader words)
which words None is = inr (is, λ sizes more begins. let e = sym is ∙ found_header words sizes more begins in absurd (cc))
which words (Some found) is = inl (found.0, found.1, begins_if words found.0 found.1 is)

pub one_of : (words : List TextWord) → HasOne words ⊎ ((header_of words ≡ None) × HasNoHeader words)
one_of words = which words (header_of words) refl

headers_are_one : (words : List TextWord) (sizes others : Sizes) (more rest : List TextWord) → BeginsWithHeader words sizes more → BeginsWithHeader words others rest
    → (sizes ≡ others) × (more ≡ rest)
headers_are_one words sizes others more rest first second =
    some_pair_parts sizes others more rest (sym (found_header words sizes more first) ∙ found_header words others rest second)

-- the clauses after a header
after : (text : List ℕ) (sizes : Sizes) (more : List TextWord) → BeginsWithHeader (words_of text) sizes more
    → dimacs_of text ≡ formula_after (first_line (words_of text)) (Some (sizes, more))
after text sizes more begins = ap (formula_after (first_line (words_of text))) (found_header (words_of text) sizes more begins)

counted : (sizes : Sizes) (clauses : List (List Lit)) → Result Formula RupFault
counted sizes clauses = cond (length clauses == sizes.clauses) (Ok (record { vars = sizes.vars; clauses = clauses })) (Err Count)

-- the answer to words after a header, by what their clauses are
reported_after : (words : List TextWord) (line : ℕ) (sizes : Sizes) (more : List TextWord) (found : Result (List (List Lit)) RupFault) → BeginsWithHeader words sizes more
    → clauses_of false sizes.vars more ≡ found → IsReportedFormula words line (and_then found (counted sizes))
unfolding counted
reported_after words line sizes more (Err fault) begins is = inr (sizes, more, begins, inl is)
reported_after words line sizes more (Ok clauses) begins is =
    let same : Bool = length clauses == sizes.clauses in
    let formula : Formula = record { vars = sizes.vars; clauses = clauses } in
    ⊎_elim
    (λ holds.
    let header = ap (λ k. record sizes { clauses = k }) (sym (eqb-true (length clauses) sizes.clauses holds)) in
    subst (IsReportedFormula words line) (sym (cond-true same (Ok formula) (Err Count) holds)) (more, subst (λ s. BeginsWithHeader words s more) header begins, is))
    (λ fails.
    subst (IsReportedFormula words line) (sym (cond-false same (Ok formula) (Err Count) fails))
    (inr (sizes, more, begins, inr (clauses, is, eqb-false (length clauses) sizes.clauses fails, refl))))
    (cases_Bool same)

reported_text : (text : List ℕ) → IsReportedFormula (words_of text) (first_line (words_of text)) (dimacs_of text)
unfolding counted
reported_text text =
    let words = words_of text in
    let line = first_line words in
    ⊎_elim
    (λ one. subst (IsReportedFormula words line) (sym (after text one.0 one.1 one.2)) (reported_after words line one.0 one.1 (clauses_of false one.0.vars one.1) one.2 refl))
    (λ none. subst (IsReportedFormula words line) (sym (ap (formula_after line) none.0)) (inl (none.1, refl)))
    (one_of words)

fault_row : (text : List ℕ) (sizes : Sizes) (more : List TextWord) (fault : RupFault) → BeginsWithHeader (words_of text) sizes more → IsFaultAfter sizes more fault → dimacs_of text ≡ Err fault
unfolding counted
fault_row text sizes more fault begins is =
    ⊎_elim
    (λ own. after text sizes more begins ∙ ap (λ r. and_then r (counted sizes)) own)
    (λ other. after text sizes more begins ∙ ap (λ r. and_then r (counted sizes)) other.1
    ∙ cond-false (length other.0 == sizes.clauses) _ (Err Count) (ne_eqb (length other.0) sizes.clauses other.2) ∙ ap Err (sym other.3))
    is

pub formula_table : FormulaTable
unfolding counted
formula_table = record {
  header = λ text none. ⊎_elim
      (λ one. absurd (none one.0 one.1 one.2))
      (λ is. ap (formula_after (first_line (words_of text))) is.0)
      (one_of (words_of text));
  fault = fault_row;
  read = λ text sizes more clauses begins is same. after text sizes more begins ∙ ap (λ r. and_then r (counted sizes)) is
      ∙ cond-true (length clauses == sizes.clauses) _ (Err Count) (eq-eqb (length clauses) sizes.clauses same);
  reported = reported_text;
  header_or_none = λ words. ⊎_elim (λ one. inl one) (λ none. inr none.1) (one_of words);
  one_header = headers_are_one;
}
