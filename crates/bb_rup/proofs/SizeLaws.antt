-- How much is read: the parts of a list are no longer together than the list, each word is a part that is not empty,
-- and each clause ends with a word.
use Rattle.std.proofs.Common.{◌≡◌, ℕ, suc, ◌+◌, ◌≤◌, ◌==◌, ◌&&◌, Bool, true, false, not, cond, Option, Some, None, IfSome, option_map, option_and_then, slice_index, drop, Result, Ok, Err, IfOk, List, [], ◌∷◌, ◌++◌, length, filter, All, nat_le, refl, sym, ap, ◌∙◌, subst, ⊎_elim, arith, false-eqb, leb-true, length-append}
use Rattle.std.specs.List.{slice_split, onto_first}
use Rattle.std.specs.Char.{is_ascii_whitespace}
use Rattle.std.proofs.lemmas.Bool.{cases_Bool, cond-true, cond-false, cond_both}
use Rattle.std.proofs.lemmas.Result.{IfOk-weaker}
use Rattle.std.proofs.lemmas.List.Elements.{All-nil, All-cons, All-append}
use Rattle.std.proofs.lemmas.List.Splits.{slice_split-cons_yes, slice_split-cons_no}
use Rattle.bb_cnf.specs.declared.clauses.Lit.{Lit}
use Rattle.bb_cnf.specs.Clauses.{Formula, HasVariablesWithin, positive, negated}
use Rattle.bb_rup.specs.declared.fault.RupFault.{RupFault}
use Rattle.bb_rup.specs.declared.fault.RupFault.TheVariants.{Literal, Unclosed, Count}
use Rattle.bb_rup.specs.TextWords.{TextWord, is_comment, words_in, on_line, words_from, words_of}
use Rattle.bb_rup.specs.Numerals.{variable_of, literal_of, numeral_value}
use Rattle.bb_rup.specs.Dimacs.{and_then, is_end, is_mark, within, literal_in, literals_in, clause_in, clauses_in, clauses_of, Sizes, sizes_of, header_of, first_line, formula_after, dimacs_of, additions_of}
use Rattle.bb_rup.specs.Inside.Ahead.{prepended}
use Rattle.bb_rup.specs.Laws.SizeLaws.{SizeLaws}
use Rattle.bb_rup.proofs.ClauseSteps.{prepended-none}

-- the length of lists together
total : {X : Type 0} → List (List X) → ℕ
total [] = 0
total (part ∷ parts) = length part + total parts

total-onto : {X : Type 0} (x : X) (parts : List (List X)) → total (onto_first x parts) ≡ 1 + total parts
unfolding total
total-onto x [] = refl
total-onto x (part ∷ parts) = omega (arith)

total-split : {X : Type 0} (p : X → Bool) (xs : List X) → total (slice_split p xs) ≤ length xs
unfolding total
total-split p [] = omega arith
total-split p (x ∷ xs) =
    ⊎_elim
    (λ holds. omega (arith, ap total (slice_split-cons_yes p x xs holds), total-split p xs))
    (λ fails. omega (arith, ap total (slice_split-cons_no p x xs fails), total-onto x (slice_split p xs), total-split p xs))
    (cases_Bool (p x))

onto_more : {X : Type 0} (x : X) (parts : List (List X)) → length (onto_first x parts) ≤ length parts + 1
onto_more x [] = omega arith
onto_more x (part ∷ parts) = omega arith

few_parts : {X : Type 0} (p : X → Bool) (xs : List X) → length (slice_split p xs) ≤ length xs + 1
few_parts p [] = omega arith
few_parts p (x ∷ xs) =
    ⊎_elim
    (λ holds. omega (arith, ap length (slice_split-cons_yes p x xs holds), few_parts p xs))
    (λ fails. omega (arith, ap length (slice_split-cons_no p x xs fails), onto_more x (slice_split p xs), few_parts p xs))
    (cases_Bool (p x))

-- words
filled : (parts : List (List ℕ)) → length (filter (λ part. not (length part == 0)) parts) ≤ total parts
unfolding total
filled [] = omega arith
filled (part ∷ parts) =
    let more = filter (λ other. not (length other == 0)) parts in
    ⊎_elim
    (λ holds. omega (arith, ap (λ b. length (cond (not b) (part ∷ more) more)) holds, filled parts))
    (λ fails. omega (arith, ap (λ b. length (cond (not b) (part ∷ more) more)) fails, false-eqb (length part) 0 (sym fails), filled parts))
    (cases_Bool (length part == 0))

length-on_line : (n : ℕ) (words : List (List ℕ)) → length (on_line n words) ≡ length words
length-on_line n [] = refl
length-on_line n (word ∷ words) = omega (arith, length-on_line n words)

line_words : (n : ℕ) (line : List ℕ) → length (cond (is_comment line) [] (on_line n (words_in line))) ≤ length line
line_words n line =
    ⊎_elim
    (λ holds. omega (arith, ap length (cond-true (is_comment line) [] (on_line n (words_in line)) holds)))
    (λ fails. omega (arith, ap length (cond-false (is_comment line) [] (on_line n (words_in line)) fails), length-on_line n (words_in line), filled (slice_split is_ascii_whitespace line), total-split is_ascii_whitespace line))
    (cases_Bool (is_comment line))

words_few : (n : ℕ) (lines : List (List ℕ)) → length (words_from n lines) ≤ total lines
unfolding total
words_few n [] = omega arith
words_few n (line ∷ lines) =
    omega (arith, length-append (cond (is_comment line) [] (on_line n (words_in line))) (words_from (n + 1) lines), line_words n line, words_few (n + 1) lines)

pub text_words : (text : List ℕ) → length (words_of text) ≤ length text
text_words text = omega (arith, words_few 1 (slice_split (λ b. b == 10) text), total-split (λ b. b == 10) text)

-- what holds of values that are made one after another
after : {A B : Type 0} (P : A → Type 0) (Q : B → Type 0) (r : Result A RupFault) (next : A → Result B RupFault) → IfOk r P → ((x : A) → P x → IfOk (next x) Q) → IfOk (and_then r next) Q
after P Q (Ok x) next known step = step x known
after P Q (Err e) next known step = tt

if_either : {A : Type 0} (P : A → Type 0) (b : Bool) (r s : Result A RupFault) → IfOk r P → IfOk s P → IfOk (cond b r s) P
if_either P true r s h k = h
if_either P false r s h k = k

-- each variable is in its range
abbrev InRange : ℕ → Lit → Type 0
InRange vars l = (1 ≤ l.var) × (l.var ≤ vars)

variable_some : (found : Option ℕ) → IfSome (option_and_then (λ n. cond (nat_le 1 n) (Some n) None) found) (λ n. 1 ≤ n)
variable_some None = tt
variable_some (Some n) =
    cond_both (nat_le 1 n) (Some n) None (λ o. IfSome o (λ m. 1 ≤ m)) (λ holds. leb-true 1 n holds) (λ fails. tt)

literal_some : (make : ℕ → Lit) → ((n : ℕ) → (make n).var ≡ n) → (found : Option ℕ) → IfSome found (λ n. 1 ≤ n) → IfSome (option_map make found) (λ l. 1 ≤ l.var)
literal_some make is None h = tt
literal_some make is (Some n) h = omega (arith, is n, h)

literal_positive : (word : List ℕ) → IfSome (literal_of word) (λ l. 1 ≤ l.var)
literal_positive word =
    cond_both (slice_index word 0 == 45) (option_map negated (variable_of (drop 1 word))) (option_map positive (variable_of word)) (λ o. IfSome o (λ l. 1 ≤ l.var))
    (λ holds. literal_some negated (λ n. refl) (variable_of (drop 1 word)) (variable_some (numeral_value (drop 1 word))))
    (λ fails. literal_some positive (λ n. refl) (variable_of word) (variable_some (numeral_value word)))

within_range : (vars line : ℕ) (found : Option Lit) → IfSome found (λ l. 1 ≤ l.var) → IfOk (within vars line found) (InRange vars)
within_range vars line None h = tt
within_range vars line (Some l) h =
    cond_both (nat_le l.var vars) (Ok l) (Err (Literal line)) (λ r. IfOk r (InRange vars)) (λ holds. (h, leb-true l.var vars holds)) (λ fails. tt)

literals_within : (vars : ℕ) (words : List TextWord) → IfOk (literals_in vars words) (All (InRange vars))
literals_within vars [] = All-nil (InRange vars)
literals_within vars (word ∷ words) =
    after (InRange vars) (All (InRange vars)) (literal_in vars word) _ (within_range vars word.line (literal_of word.bytes) (literal_positive word.bytes))
    (λ l h. after (All (InRange vars)) (All (InRange vars)) (literals_in vars words) (λ lits. Ok (l ∷ lits)) (literals_within vars words)
    (λ lits k. All-cons (InRange vars) l lits h k))

-- each part but the last is one clause, or none; its literals are in their range
record IsSmall (vars : ℕ) (clauses : List (List Lit)) (most : ℕ) : Type 0 where
  few : length clauses ≤ most
  range : HasVariablesWithin vars clauses

none_small : (vars : ℕ) (most : ℕ) → IsSmall vars [] most
none_small vars most = record { few = omega arith; range = All-nil (All (InRange vars)) }

one_small : (vars : ℕ) (lits : List Lit) → All (InRange vars) lits → IsSmall vars (lits ∷ []) 1
one_small vars lits h = record { few = omega arith; range = All-cons (All (InRange vars)) lits [] h (All-nil (All (InRange vars))) }

joined_small : (vars most : ℕ) (clause clauses : List (List Lit)) → IsSmall vars clause 1 → IsSmall vars clauses most → IsSmall vars (clause ++ clauses) (suc most)
joined_small vars most clause clauses first rest = record {
  few = omega (arith, length-append clause clauses, first.few, rest.few);
  range = All-append (All (InRange vars)) clause clauses first.range rest.range;
}

clause_small : (deletions : Bool) (vars : ℕ) (part : List TextWord) → IfOk (clause_in deletions vars part) (λ clause. IsSmall vars clause 1)
clause_small deletions vars [] = one_small vars [] (All-nil (InRange vars))
clause_small deletions vars (word ∷ words) =
    if_either (λ clause. IsSmall vars clause 1) (deletions && is_mark word) _ _
    (after (All (InRange vars)) (λ clause. IsSmall vars clause 1) (literals_in vars words) (λ lits. Ok []) (literals_within vars words) (λ lits h. none_small vars 1))
    (after (All (InRange vars)) (λ clause. IsSmall vars clause 1) (literals_in vars (word ∷ words)) (λ lits. Ok (lits ∷ [])) (literals_within vars (word ∷ words)) (λ lits h. one_small vars lits h))

parts_small : (deletions : Bool) (vars : ℕ) (part : List TextWord) (parts : List (List TextWord)) → IfOk (clauses_in deletions vars (part ∷ parts)) (λ clauses. IsSmall vars clauses (length parts))
parts_small deletions vars part [] =
    after (λ clause. IsSmall vars clause 1) (λ clauses. IsSmall vars clauses 0) (clause_in deletions vars part) _ (clause_small deletions vars part)
    (λ clause h. if_either (λ clauses. IsSmall vars clauses 0) (length part == 0) (Ok []) (Err Unclosed) (none_small vars 0) tt)
parts_small deletions vars part (next ∷ parts) =
    let most : ℕ = length parts in
    after (λ clause. IsSmall vars clause 1) (λ clauses. IsSmall vars clauses (suc most)) (clause_in deletions vars part) _ (clause_small deletions vars part)
    (λ clause h. after (λ clauses. IsSmall vars clauses most) (λ clauses. IsSmall vars clauses (suc most)) (clauses_in deletions vars (next ∷ parts)) (λ clauses. Ok (clause ++ clauses))
    (parts_small deletions vars next parts) (λ clauses k. joined_small vars most clause clauses h k))

split_small : (deletions : Bool) (vars : ℕ) (n : ℕ) (parts : List (List TextWord)) → length parts ≤ n + 1 → IfOk (clauses_in deletions vars parts) (λ clauses. (length clauses ≤ n) × HasVariablesWithin vars clauses)
split_small deletions vars n [] h = (omega arith, All-nil (All (InRange vars)))
split_small deletions vars n (part ∷ parts) h =
    IfOk-weaker (clauses_in deletions vars (part ∷ parts)) (λ clauses. IsSmall vars clauses (length parts)) (λ clauses. (length clauses ≤ n) × HasVariablesWithin vars clauses)
    (λ clauses small. (omega (arith, small.few, h), small.range)) (parts_small deletions vars part parts)

pub words_small : (deletions : Bool) (vars : ℕ) (words : List TextWord) → IfOk (clauses_of deletions vars words) (λ clauses. (length clauses ≤ length words) × HasVariablesWithin vars clauses)
words_small deletions vars words = split_small deletions vars (length words) (slice_split is_end words) (few_parts is_end words)

-- a formula's words follow the header
after_small : (line n : ℕ) (found : Option (Sizes × List TextWord)) → IfSome found (λ header. length header.1 ≤ n)
    → IfOk (formula_after line found) (λ formula. (length formula.clauses ≤ n) × HasVariablesWithin formula.vars formula.clauses)
after_small line n None h = tt
after_small line n (Some (sizes, words)) h =
    let Small = λ (clauses : List (List Lit)). (length clauses ≤ length words) × HasVariablesWithin sizes.vars clauses in
    let Known = λ (formula : Formula). (length formula.clauses ≤ n) × HasVariablesWithin formula.vars formula.clauses in
    after Small Known (clauses_of false sizes.vars words) _ (words_small false sizes.vars words)
    (λ clauses small. if_either Known (length clauses == sizes.clauses) (Ok (record { vars = sizes.vars; clauses = clauses })) (Err Count) (omega (arith, small.0, h), small.1) tt)

header_rest : (found : Option Sizes) (words : List TextWord) (n : ℕ) → length words ≤ n → IfSome (option_map {U = Sizes × List TextWord} (λ sizes. (sizes, words)) found) (λ header. length header.1 ≤ n)
header_rest None words n h = tt
header_rest (Some sizes) words n h = h

rest_few : (words : List TextWord) → IfSome (header_of words) (λ header. length header.1 ≤ length words)
rest_few [] = tt
rest_few (p ∷ []) = tt
rest_few (p ∷ cnf ∷ []) = tt
rest_few (p ∷ cnf ∷ vars ∷ []) = tt
rest_few (p ∷ cnf ∷ vars ∷ clauses ∷ words) = header_rest (sizes_of p cnf vars clauses) words (length (p ∷ cnf ∷ vars ∷ clauses ∷ words)) (omega arith)

pub formula_small : (text : List ℕ) → IfOk (dimacs_of text) (λ formula. (length formula.clauses ≤ length text) × HasVariablesWithin formula.vars formula.clauses)
formula_small text =
    IfOk-weaker (dimacs_of text) (λ formula. (length formula.clauses ≤ length (words_of text)) × HasVariablesWithin formula.vars formula.clauses)
    (λ formula. (length formula.clauses ≤ length text) × HasVariablesWithin formula.vars formula.clauses) (λ formula h. (omega (arith, h.0, text_words text), h.1))
    (after_small (first_line (words_of text)) (length (words_of text)) (header_of (words_of text)) (rest_few (words_of text)))

pub additions_small : (text : List ℕ) (vars : ℕ) → IfOk (additions_of text vars) (λ clauses. (length clauses ≤ length text) × HasVariablesWithin vars clauses)
additions_small text vars =
    IfOk-weaker (additions_of text vars) (λ clauses. (length clauses ≤ length (words_of text)) × HasVariablesWithin vars clauses)
    (λ clauses. (length clauses ≤ length text) × HasVariablesWithin vars clauses) (λ clauses h. (omega (arith, h.0, text_words text), h.1))
    (words_small true vars (words_of text))

-- of what the code has read after no clauses
read_small : (deletions : Bool) (vars : ℕ) (words : List TextWord) (none clauses : List (List Lit)) → none ≡ [] → prepended none (clauses_of deletions vars words) ≡ Ok clauses
    → (length clauses ≤ length words) × HasVariablesWithin vars clauses
read_small deletions vars words none clauses is read =
    let reported = sym (prepended-none (clauses_of deletions vars words)) ∙ ap (λ prefix. prepended prefix (clauses_of deletions vars words)) (sym is) ∙ read in
    subst (λ r. IfOk r (λ found. (length found ≤ length words) × HasVariablesWithin vars found)) reported (words_small deletions vars words)

pub read_within : (deletions : Bool) (vars : ℕ) (words : List TextWord) (none clauses : List (List Lit)) → none ≡ [] → prepended none (clauses_of deletions vars words) ≡ Ok clauses → HasVariablesWithin vars clauses
read_within deletions vars words none clauses is read = (read_small deletions vars words none clauses is read).1

pub read_few : (text : List ℕ) (vars : ℕ) (words : List TextWord) (none clauses : List (List Lit)) → words ≡ words_of text → none ≡ [] → prepended none (clauses_of true vars words) ≡ Ok clauses
    → length clauses ≤ length text
read_few text vars words none clauses are is read = omega (arith, (read_small true vars words none clauses is read).0, ap length are, text_words text)

pub size_laws : SizeLaws
size_laws = record {
  words = text_words;
  clauses = λ deletions vars words. IfOk-weaker (clauses_of deletions vars words) (λ clauses. (length clauses ≤ length words) × HasVariablesWithin vars clauses) (λ clauses. length clauses ≤ length words)
      (λ clauses h. h.0) (words_small deletions vars words);
  formula = λ text. IfOk-weaker (dimacs_of text) (λ formula. (length formula.clauses ≤ length text) × HasVariablesWithin formula.vars formula.clauses) (λ formula. length formula.clauses ≤ length text)
      (λ formula h. h.0) (formula_small text);
  additions = λ text vars. IfOk-weaker (additions_of text vars) (λ clauses. (length clauses ≤ length text) × HasVariablesWithin vars clauses) (λ clauses. length clauses ≤ length text)
      (λ clauses h. h.0) (additions_small text vars);
  within = λ deletions vars words. IfOk-weaker (clauses_of deletions vars words) (λ clauses. (length clauses ≤ length words) × HasVariablesWithin vars clauses) (HasVariablesWithin vars)
      (λ clauses h. h.1) (words_small deletions vars words);
  formula_within = λ text. IfOk-weaker (dimacs_of text) (λ formula. (length formula.clauses ≤ length text) × HasVariablesWithin formula.vars formula.clauses) (λ formula. HasVariablesWithin formula.vars formula.clauses)
      (λ formula h. h.1) (formula_small text);
}
