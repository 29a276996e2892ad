-- The lines of a proof give back its clauses and its steps. A number is read back because a byte below the
-- digits follows it. Both texts number their lines alike, so the line of a place begins alike in both; after
-- that, literals and pairs are read one by one up to the line feed. The clauses end where a line begins with
-- another byte, and the steps at the end of the text.
use Rattle.std.proofs.Common.{◌≡◌, ◌≤◌, ◌<◌, ◌+◌, ℕ, Bool, true, false, List, [], ◌∷◌, ◌++◌, append_assoc, length, map, All, refl, sym, ◌∙◌, ap, ap₂, arith}
use Rattle.std.specs.Prelude.{codes, decimal}
use Rattle.std.specs.List.{flat_map}
use Rattle.std.specs.Str.Parse.{AllDigits, digits_value}
use Rattle.std.proofs.lemmas.Fmt.{decimal_is_IsNumeral_wide}
use Rattle.std.proofs.lemmas.List.{append_cancel_left}
use Rattle.std.proofs.lemmas.Str.Parse.{digit_from_value}
use Rattle.std.proofs.lemmas.List.Elements.{All-head, All-tail}
use Rattle.bb_cnf.specs.declared.clauses.Lit.{Lit}
use Rattle.bb_cnf.specs.declared.refutation.Step.{Step}
use Rattle.bb_cnf.specs.Laws.{LinesFixProofs}
use Rattle.bb_cnf.specs.Lines.{literal_text, pair_text, clause_lines, step_lines, step_numbers, IsShort, IsShortClause, IsShortStep}

-- a text's first byte, and the others
abbrev first_byte : List ℕ → ℕ
first_byte [] = 0
first_byte (n ∷ text) = n

abbrev other_bytes : List ℕ → List ℕ
other_bytes [] = []
other_bytes (n ∷ text) = text

-- a byte below the digits is at the beginning, or none
abbrev Stops : List ℕ → Type 0
Stops text = first_byte text < 48

digit_is : (c : ℕ) (ds : List ℕ) → AllDigits 10 (c ∷ ds) → 48 ≤ c
digit_is c ds digits = omega (arith, digit_from_value c digits.0)

-- digits up to the first other byte
digits_cut : (a b s t : List ℕ) → AllDigits 10 a → AllDigits 10 b → Stops s → Stops t → a ++ s ≡ b ++ t → (a ≡ b) × (s ≡ t)
digits_cut [] [] s t a_digits b_digits s_stops t_stops same = (refl, same)
digits_cut [] (y ∷ b) s t a_digits b_digits s_stops t_stops same = absurd (omega (arith, s_stops, digit_is y b b_digits, ap first_byte same))
digits_cut (x ∷ a) [] s t a_digits b_digits s_stops t_stops same = absurd (omega (arith, t_stops, digit_is x a a_digits, ap first_byte same))
digits_cut (x ∷ a) (y ∷ b) s t a_digits b_digits s_stops t_stops same =
    let rest = digits_cut a b s t a_digits.1 b_digits.1 s_stops t_stops (ap other_bytes same) in
    (ap (λ n. n ∷ a) (ap first_byte same) ∙ ap (λ l. y ∷ l) rest.0, rest.1)

-- two numbers, each before a byte that is no digit
number_cut : (m n : ℕ) (s t : List ℕ) → IsShort m → IsShort n → Stops s → Stops t → decimal m ++ s ≡ decimal n ++ t → (m ≡ n) × (s ≡ t)
number_cut m n s t m_short n_short s_stops t_stops same =
    let first = decimal_is_IsNumeral_wide m m_short in
    let second = decimal_is_IsNumeral_wide n n_short in
    let parts = digits_cut (decimal m) (decimal n) s t first.0.1 second.0.1 s_stops t_stops same in
    (sym first.1 ∙ ap (digits_value 10) parts.0 ∙ second.1, parts.1)

prefix_digit : (a s : List ℕ) → 0 < length a → AllDigits 10 a → 48 ≤ first_byte (a ++ s)
prefix_digit [] s some digits = absurd (omega (arith, some))
prefix_digit (x ∷ a) s some digits = digit_is x a digits

-- a number begins with a digit
decimal_prefix : (n : ℕ) (s : List ℕ) → IsShort n → 48 ≤ first_byte (decimal n ++ s)
decimal_prefix n s short = let known = decimal_is_IsNumeral_wide n short in prefix_digit (decimal n) s known.0.0 known.0.1

-- a front, and what follows it part by part
in_parts : (prefix a b c rest : List ℕ) → prefix ++ a ++ b ++ c ++ rest ≡ prefix ++ (a ++ (b ++ (c ++ rest)))
in_parts prefix a b c rest =
    append_assoc (prefix ++ a ++ b) c rest
    ∙ append_assoc (prefix ++ a) b (c ++ rest)
    ∙ append_assoc prefix a (b ++ (c ++ rest))

-- after the same front
after_prefix : (prefix a b c rest d e f more : List ℕ) → prefix ++ a ++ b ++ c ++ rest ≡ prefix ++ d ++ e ++ f ++ more
    → a ++ (b ++ (c ++ rest)) ≡ d ++ (e ++ (f ++ more))
after_prefix prefix a b c rest d e f more same =
    append_cancel_left prefix (a ++ (b ++ (c ++ rest))) (d ++ (e ++ (f ++ more)))
    (sym (in_parts prefix a b c rest) ∙ same ∙ in_parts prefix d e f more)

-- a literal of its parts, and its text
abbrev literal : Bool → ℕ → Lit
literal neg x = record { var = x; neg = neg }

-- two literals, each before a byte that is no digit
literal_cut : (a b : Bool) (x y : ℕ) (s t : List ℕ) → IsShort x → IsShort y → Stops s → Stops t
    → literal_text (literal a x) ++ s ≡ literal_text (literal b y) ++ t → (literal a x ≡ literal b y) × (s ≡ t)
literal_cut false false x y s t x_short y_short s_stops t_stops same =
    let parts = number_cut x y s t x_short y_short s_stops t_stops (ap other_bytes same) in (ap (literal false) parts.0, parts.1)
literal_cut true true x y s t x_short y_short s_stops t_stops same =
    let parts = number_cut x y s t x_short y_short s_stops t_stops (ap other_bytes (ap other_bytes same)) in (ap (literal true) parts.0, parts.1)
literal_cut false true x y s t x_short y_short s_stops t_stops same = absurd (omega (arith, decimal_prefix x s x_short, ap first_byte (ap other_bytes same)))
literal_cut true false x y s t x_short y_short s_stops t_stops same = absurd (omega (arith, decimal_prefix y t y_short, ap first_byte (ap other_bytes same)))

-- a literal begins with a blank
literal_prefix : (neg : Bool) (x : ℕ) (s : List ℕ) → first_byte (literal_text (literal neg x) ++ s) ≡ 32
literal_prefix true x s = refl
literal_prefix false x s = refl

-- the literals of a line, and what follows the line feed
abbrev literals_then : List Lit → List ℕ → List ℕ
literals_then lits rest = flat_map literal_text lits ++ (codes "\n" ++ rest)

one_literal : (l : Lit) (lits : List Lit) (rest : List ℕ) → literals_then (l ∷ lits) rest ≡ literal_text l ++ literals_then lits rest
one_literal l lits rest = append_assoc (literal_text l) (flat_map literal_text lits) (codes "\n" ++ rest)

blank_prefix : (l : Lit) (lits : List Lit) (rest : List ℕ) → first_byte (literals_then (l ∷ lits) rest) ≡ 32
blank_prefix l lits rest = ap first_byte (one_literal l lits rest) ∙ literal_prefix l.neg l.var (literals_then lits rest)

literals_stop : (lits : List Lit) (rest : List ℕ) → Stops (literals_then lits rest)
literals_stop [] rest = omega arith
literals_stop (l ∷ lits) rest = omega (arith, blank_prefix l lits rest)

same_literals : (c d : List Lit) (s t : List ℕ) → IsShortClause c → IsShortClause d → literals_then c s ≡ literals_then d t → (c ≡ d) × (s ≡ t)
same_literals [] [] s t c_short d_short same = (refl, ap other_bytes same)
same_literals [] (m ∷ d) s t c_short d_short same = absurd (omega (arith, blank_prefix m d t, ap first_byte same))
same_literals (l ∷ c) [] s t c_short d_short same = absurd (omega (arith, blank_prefix l c s, ap first_byte same))
same_literals (l ∷ c) (m ∷ d) s t c_short d_short same =
    let short : Lit → Type 0 = λ k. IsShort k.var in
    let here = literal_cut l.neg m.neg l.var m.var (literals_then c s) (literals_then d t) (All-head short l c c_short) (All-head short m d d_short)
    (literals_stop c s) (literals_stop d t) (sym (one_literal l c s) ∙ same ∙ one_literal m d t) in
    let rest = same_literals c d s t (All-tail short l c c_short) (All-tail short m d d_short) here.1 in
    (ap (λ k. k ∷ c) here.0 ∙ ap (λ ls. m ∷ ls) rest.0, rest.1)

-- the lines of clauses, and what follows them
one_clause : (n : ℕ) (c : List Lit) (clauses : List (List Lit)) (s : List ℕ)
    → clause_lines n (c ∷ clauses) ++ s ≡ (codes "clause " ++ decimal n) ++ literals_then c (clause_lines (n + 1) clauses ++ s)
one_clause n c clauses s = in_parts (codes "clause " ++ decimal n) (flat_map literal_text c) (codes "\n") (clause_lines (n + 1) clauses) s

same_clauses : (n : ℕ) (clauses others : List (List Lit)) (s t : List ℕ) → All IsShortClause clauses → All IsShortClause others
    → (first_byte s ≡ 99 → ⊥) → (first_byte t ≡ 99 → ⊥) → clause_lines n clauses ++ s ≡ clause_lines n others ++ t → (clauses ≡ others) × (s ≡ t)
same_clauses n [] [] s t short shorts apart aparts same = (refl, same)
same_clauses n [] (d ∷ others) s t short shorts apart aparts same = absurd (apart (ap first_byte (same ∙ one_clause n d others t)))
same_clauses n (c ∷ clauses) [] s t short shorts apart aparts same = absurd (aparts (sym (ap first_byte (sym (one_clause n c clauses s) ∙ same))))
same_clauses n (c ∷ clauses) (d ∷ others) s t short shorts apart aparts same =
    let prefix = codes "clause " ++ decimal n in
    let after = after_prefix prefix (flat_map literal_text c) (codes "\n") (clause_lines (n + 1) clauses) s (flat_map literal_text d) (codes "\n") (clause_lines (n + 1) others) t same in
    let here = same_literals c d (clause_lines (n + 1) clauses ++ s) (clause_lines (n + 1) others ++ t) (All-head IsShortClause c clauses short) (All-head IsShortClause d others shorts) after in
    let rest = same_clauses (n + 1) clauses others s t (All-tail IsShortClause c clauses short) (All-tail IsShortClause d others shorts) apart aparts here.1 in
    (ap (λ k. k ∷ clauses) here.0 ∙ ap (λ ks. d ∷ ks) rest.0, rest.1)

-- the pairs of a line, and what follows the line feed
abbrev pairs_then : List (ℕ × ℕ) → List ℕ → List ℕ
pairs_then pairs rest = flat_map pair_text pairs ++ (codes "\n" ++ rest)

one_pair : (p : ℕ × ℕ) (pairs : List (ℕ × ℕ)) (rest : List ℕ)
    → pairs_then (p ∷ pairs) rest ≡ (codes " " ++ decimal p.0) ++ (codes "/" ++ (decimal p.1 ++ pairs_then pairs rest))
one_pair p pairs rest = in_parts (codes " " ++ decimal p.0) (codes "/") (decimal p.1) (flat_map pair_text pairs) (codes "\n" ++ rest)

pairs_prefix : (p : ℕ × ℕ) (pairs : List (ℕ × ℕ)) (rest : List ℕ) → first_byte (pairs_then (p ∷ pairs) rest) ≡ 32
pairs_prefix p pairs rest = ap first_byte (one_pair p pairs rest)

pairs_stop : (pairs : List (ℕ × ℕ)) (rest : List ℕ) → Stops (pairs_then pairs rest)
pairs_stop [] rest = omega arith
pairs_stop (p ∷ pairs) rest = omega (arith, pairs_prefix p pairs rest)

abbrev IsShortPair : ℕ × ℕ → Type 0
IsShortPair pair = IsShort pair.0 × IsShort pair.1

same_pairs : (ps qs : List (ℕ × ℕ)) (s t : List ℕ) → All IsShortPair ps → All IsShortPair qs → pairs_then ps s ≡ pairs_then qs t → (ps ≡ qs) × (s ≡ t)
same_pairs [] [] s t short shorts same = (refl, ap other_bytes same)
same_pairs [] (q ∷ qs) s t short shorts same = absurd (omega (arith, pairs_prefix q qs t, ap first_byte same))
same_pairs (p ∷ ps) [] s t short shorts same = absurd (omega (arith, pairs_prefix p ps s, ap first_byte same))
same_pairs (p ∷ ps) (q ∷ qs) s t short shorts same =
    let p_short = All-head IsShortPair p ps short in
    let q_short = All-head IsShortPair q qs shorts in
    let number = number_cut p.0 q.0 (codes "/" ++ (decimal p.1 ++ pairs_then ps s)) (codes "/" ++ (decimal q.1 ++ pairs_then qs t)) p_short.0 q_short.0 (omega arith) (omega arith)
    (ap other_bytes (sym (one_pair p ps s) ∙ same ∙ one_pair q qs t)) in
    let var = number_cut p.1 q.1 (pairs_then ps s) (pairs_then qs t) p_short.1 q_short.1 (pairs_stop ps s) (pairs_stop qs t) (ap other_bytes number.1) in
    let rest = same_pairs ps qs s t (All-tail IsShortPair p ps short) (All-tail IsShortPair q qs shorts) var.1 in
    let pair : p ≡ q = ap₂ (λ m n. (m, n)) number.0 var.0 in
    (ap (λ k. k ∷ ps) pair ∙ ap (λ ks. q ∷ ks) rest.0, rest.1)

-- a line of a step is not empty
step_prefix : (n : ℕ) (step : Step) (steps : List Step) → first_byte (step_lines n (step ∷ steps)) ≡ 115
step_prefix n step steps = ap first_byte (in_parts (codes "step " ++ decimal n ++ codes " ") (decimal step.first) (flat_map pair_text step.rest.items) (codes "\n") (step_lines (n + 1) steps))

steps_apart : (n : ℕ) (steps : List Step) → first_byte (step_lines n steps) ≡ 99 → ⊥
steps_apart n [] same = omega (arith, same)
steps_apart n (step ∷ steps) same = omega (arith, same, step_prefix n step steps)

same_steps : (n : ℕ) (steps more : List Step) → All IsShortStep steps → All IsShortStep more → step_lines n steps ≡ step_lines n more → map step_numbers steps ≡ map step_numbers more
same_steps n [] [] short shorts same = refl
same_steps n [] (u ∷ more) short shorts same = absurd (omega (arith, step_prefix n u more, ap first_byte same))
same_steps n (s ∷ steps) [] short shorts same = absurd (omega (arith, step_prefix n s steps, ap first_byte same))
same_steps n (s ∷ steps) (u ∷ more) short shorts same =
    let s_short = All-head IsShortStep s steps short in
    let u_short = All-head IsShortStep u more shorts in
    let s_rest = step_lines (n + 1) steps in
    let u_rest = step_lines (n + 1) more in
    let after = after_prefix (codes "step " ++ decimal n ++ codes " ") (decimal s.first) (flat_map pair_text s.rest.items) (codes "\n") s_rest
    (decimal u.first) (flat_map pair_text u.rest.items) (codes "\n") u_rest same in
    let first = number_cut s.first u.first (pairs_then s.rest.items s_rest) (pairs_then u.rest.items u_rest) s_short.0 u_short.0
    (pairs_stop s.rest.items s_rest) (pairs_stop u.rest.items u_rest) after in
    let pairs = same_pairs s.rest.items u.rest.items s_rest u_rest s_short.1 u_short.1 first.1 in
    let rest = same_steps (n + 1) steps more (All-tail IsShortStep s steps short) (All-tail IsShortStep u more shorts) pairs.1 in
    let numbers : step_numbers s ≡ step_numbers u = ap₂ (λ m ps. (m, ps)) first.0 pairs.0 in
    ap (λ k. k ∷ map step_numbers steps) numbers ∙ ap (λ ks. step_numbers u ∷ ks) rest

pub lines_fix_proofs : LinesFixProofs
lines_fix_proofs clauses others steps more short shorts same =
    let given = same_clauses 0 clauses others (step_lines (length clauses) steps) (step_lines (length others) more) short.0 shorts.0
    (steps_apart (length clauses) steps) (steps_apart (length others) more) same in
    let numbered : step_lines (length clauses) steps ≡ step_lines (length clauses) more = given.1 ∙ ap (λ cs. step_lines (length cs) more) (sym given.0) in
    (given.0, same_steps (length clauses) steps more short.1 shorts.1 numbered)
