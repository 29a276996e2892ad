-- Clauses one by one: the words are cut at each end, and here the clause that begins them is read up to its end, and
-- the others after it.
use Rattle.std.proofs.Common.{◌≡◌, ℕ, ◌<◌, ◌==◌, ◌&&◌, Bool, true, false, cond, Result, Ok, Err, List, [], ◌∷◌, ◌++◌, length, codes, bytes_eq, append_assoc, append-nil, refl, sym, ap, ◌∙◌, inl, inr, ⊎_elim, arith, ne_eqb}
use Rattle.std.specs.List.{slice_split, onto_first}
use Rattle.std.proofs.lemmas.Bool.{cases_Bool, cond-true, cond-false, and_from}
use Rattle.std.proofs.lemmas.Slice.Eq.{bytes_eq-Decides}
use Rattle.std.proofs.lemmas.List.Splits.{slice_split-cons_yes, slice_split-cons_no}
use Rattle.bb_cnf.specs.declared.clauses.Lit.{Lit}
use Rattle.bb_rup.specs.declared.fault.RupFault.{RupFault}
use Rattle.bb_rup.specs.declared.fault.RupFault.TheVariants.{Unclosed}
use Rattle.bb_rup.specs.TextWords.{TextWord}
use Rattle.bb_rup.specs.Dimacs.{and_then, is_end, is_mark, literal_in, literals_in, clause_in, clauses_in, clauses_of}
use Rattle.smallvec.specs.SmallVec.{SmallVec}
use Rattle.bb_cnf.specs.Clauses.{lists_of}
use Rattle.bb_rup.specs.Inside.Ahead.{literals_to_end, prepended, IsFaultOf}
use Rattle.bb_rup.proofs.WordSteps.{first_part, other_parts, split_more, has_part}

abbrev pub Clauses : Type 0
Clauses = List (List Lit)

-- one after another
pub and_then-assoc : {A B C : Type 0} (r : Result A RupFault) (f : A → Result B RupFault) (g : B → Result C RupFault) → and_then (and_then r f) g ≡ and_then r (λ x. and_then (f x) g)
and_then-assoc (Ok x) f g = refl
and_then-assoc (Err e) f g = refl

pub and_then-same : {A B : Type 0} (r : Result A RupFault) (f g : A → Result B RupFault) → ((x : A) → f x ≡ g x) → and_then r f ≡ and_then r g
and_then-same (Ok x) f g h = h x
and_then-same (Err e) f g h = refl

pub prepended-twice : (first second : Clauses) (rest : Result Clauses RupFault) → prepended first (prepended second rest) ≡ prepended (first ++ second) rest
prepended-twice first second (Ok more) = ap Ok (sym (append_assoc first second more))
prepended-twice first second (Err e) = refl

pub prepended-none : (rest : Result Clauses RupFault) → prepended [] rest ≡ rest
prepended-none (Ok more) = refl
prepended-none (Err e) = refl

-- what an entry's literals add: a clause, or nothing
abbrev pub kept : Bool → List Lit → Clauses
kept true lits = lits ∷ []
kept false lits = []

-- these clauses, and those of parts that follow an end
abbrev closed : Bool → ℕ → Clauses → List (List TextWord) → Result Clauses RupFault
closed deletions vars clauses [] = Err Unclosed
closed deletions vars clauses (part ∷ parts) = prepended clauses (clauses_in deletions vars (part ∷ parts))

-- an entry whose first literals are read, and whose others are in the first part
abbrev opened : Bool → ℕ → Bool → List Lit → List (List TextWord) → Result Clauses RupFault
opened deletions vars keep lits [] = Err Unclosed
opened deletions vars keep lits (part ∷ parts) = and_then (literals_in vars part) (λ more. closed deletions vars (kept keep (lits ++ more)) parts)

closed_some : (deletions : Bool) (vars : ℕ) (clauses : Clauses) (parts : List (List TextWord)) → 0 < length parts → closed deletions vars clauses parts ≡ prepended clauses (clauses_in deletions vars parts)
closed_some deletions vars clauses [] some = absurd (omega (arith, some))
closed_some deletions vars clauses (part ∷ parts) some = refl

-- one literal more is read
one_more : (deletions : Bool) (vars : ℕ) (keep : Bool) (lits : List Lit) (l : Lit) (parts : List (List TextWord)) (rest : Result (List Lit) RupFault)
    → and_then (and_then rest (λ more. Ok (l ∷ more))) (λ more. closed deletions vars (kept keep (lits ++ more)) parts)
    ≡ and_then rest (λ more. closed deletions vars (kept keep (lits ++ l ∷ [] ++ more)) parts)
one_more deletions vars keep lits l parts (Ok more) = ap (λ ls. closed deletions vars (kept keep ls) parts) (sym (append_assoc lits (l ∷ []) more))
one_more deletions vars keep lits l parts (Err e) = refl

first_literal : (deletions : Bool) (vars : ℕ) (keep : Bool) (lits : List Lit) (part : List TextWord) (parts : List (List TextWord)) (first : Result Lit RupFault)
    → and_then (and_then first (λ l. and_then (literals_in vars part) (λ more. Ok (l ∷ more)))) (λ more. closed deletions vars (kept keep (lits ++ more)) parts)
    ≡ and_then first (λ l. opened deletions vars keep (lits ++ l ∷ []) (part ∷ parts))
first_literal deletions vars keep lits part parts (Ok l) = one_more deletions vars keep lits l parts (literals_in vars part)
first_literal deletions vars keep lits part parts (Err e) = refl

opened-literal : (deletions : Bool) (vars : ℕ) (keep : Bool) (lits : List Lit) (word : TextWord) (parts : List (List TextWord)) → 0 < length parts
    → opened deletions vars keep lits (onto_first word parts) ≡ and_then (literal_in vars word) (λ l. opened deletions vars keep (lits ++ l ∷ []) parts)
opened-literal deletions vars keep lits word [] some = absurd (omega (arith, some))
opened-literal deletions vars keep lits word (part ∷ parts) some = first_literal deletions vars keep lits part parts (literal_in vars word)

-- what is read after some literals is the rest of the entry, and the clauses after its end
abbrev pub onward : Bool → ℕ → Bool → List Lit × List TextWord → Result Clauses RupFault
onward deletions vars keep found = prepended (kept keep found.0) (clauses_of deletions vars found.1)

opened_is : (deletions : Bool) (vars : ℕ) (keep : Bool) (words : List TextWord) (lits : List Lit)
    → opened deletions vars keep lits (slice_split is_end words) ≡ and_then (literals_to_end vars lits words) (onward deletions vars keep)
opened_is deletions vars keep [] lits = refl
opened_is deletions vars keep (word ∷ words) lits =
    let next = λ (l : Lit). literals_to_end vars (lits ++ l ∷ []) words in
    ⊎_elim
    (λ holds.
    ap (opened deletions vars keep lits) (slice_split-cons_yes is_end word words holds)
    ∙ closed_some deletions vars (kept keep (lits ++ [])) (slice_split is_end words) (has_part is_end words)
    ∙ ap (λ ls. prepended (kept keep ls) (clauses_of deletions vars words)) (append-nil lits)
    ∙ ap (λ r. and_then r (onward deletions vars keep)) (sym (cond-true (is_end word) (Ok (lits, words)) (and_then (literal_in vars word) next) holds)))
    (λ fails.
    ap (opened deletions vars keep lits) (slice_split-cons_no is_end word words fails)
    ∙ opened-literal deletions vars keep lits word (slice_split is_end words) (has_part is_end words)
    ∙ and_then-same (literal_in vars word) (λ l. opened deletions vars keep (lits ++ l ∷ []) (slice_split is_end words)) (λ l. and_then (next l) (onward deletions vars keep))
    (λ l. opened_is deletions vars keep words (lits ++ l ∷ []))
    ∙ sym (and_then-assoc (literal_in vars word) next (onward deletions vars keep))
    ∙ ap (λ r. and_then r (onward deletions vars keep)) (sym (cond-false (is_end word) (Ok (lits, words)) (and_then (literal_in vars word) next) fails)))
    (cases_Bool (is_end word))

-- the clause of a part that is no deletion, and the one of a deletion
clause_kept : (deletions : Bool) (vars : ℕ) (word : TextWord) (part : List TextWord) → (deletions && is_mark word) ≡ false
    → clause_in deletions vars (word ∷ part) ≡ and_then (literals_in vars (word ∷ part)) (λ lits. Ok (lits ∷ []))
clause_kept deletions vars word part fails = cond-false (deletions && is_mark word) (and_then (literals_in vars part) (λ lits. Ok [])) _ fails

clause_left : (deletions : Bool) (vars : ℕ) (word : TextWord) (part : List TextWord) → (deletions && is_mark word) ≡ true
    → clause_in deletions vars (word ∷ part) ≡ and_then (literals_in vars part) (λ lits. Ok [])
clause_left deletions vars word part holds = cond-true (deletions && is_mark word) (and_then (literals_in vars part) (λ lits. Ok [])) _ holds

-- the first of several parts
in_parts : (deletions : Bool) (vars : ℕ) (keep : Bool) (word : TextWord) (part : List TextWord) (parts : List (List TextWord)) (lits : Result (List Lit) RupFault)
    → clause_in deletions vars (word ∷ part) ≡ and_then lits (λ ls. Ok (kept keep ls))
    → clauses_in deletions vars ((word ∷ part) ∷ parts) ≡ and_then lits (λ more. closed deletions vars (kept keep ([] ++ more)) parts)
in_parts deletions vars keep word part [] lits is =
    ap (λ r. and_then r (λ clause. cond (length (word ∷ part) == 0) (Ok []) (Err Unclosed))) is
    ∙ and_then-assoc lits (λ ls. Ok (kept keep ls)) (λ clause. cond (length (word ∷ part) == 0) (Ok []) (Err Unclosed))
    ∙ ap (λ empty. and_then lits (λ ls. cond empty (Ok []) (Err Unclosed))) (ne_eqb (length (word ∷ part)) 0 (λ e. omega (arith, e)))
in_parts deletions vars keep word part (next ∷ parts) lits is =
    let rest = λ (clause : Clauses). prepended clause (clauses_in deletions vars (next ∷ parts)) in
    ap (λ r. and_then r rest) is ∙ and_then-assoc lits (λ ls. Ok (kept keep ls)) rest

-- an end alone is an empty clause
empty_first : (deletions : Bool) (vars : ℕ) (parts : List (List TextWord)) → 0 < length parts → clauses_in deletions vars ([] ∷ parts) ≡ prepended ([] ∷ []) (clauses_in deletions vars parts)
empty_first deletions vars [] some = absurd (omega (arith, some))
empty_first deletions vars (part ∷ parts) some = refl

pub mark_is_no_end : (word : TextWord) → is_mark word ≡ true → is_end word ≡ false
mark_is_no_end word h = ap (λ bytes. bytes_eq bytes (codes "0")) ((bytes_eq-Decides word.bytes (codes "d")).0 h)

-- the clauses of words that begin with a clause
pub clauses_of-clause : (deletions : Bool) (vars : ℕ) (word : TextWord) (words : List TextWord) → (deletions && is_mark word) ≡ false
    → clauses_of deletions vars (word ∷ words) ≡ and_then (literals_to_end vars [] (word ∷ words)) (onward deletions vars true)
clauses_of-clause deletions vars word words fails =
    let part = first_part (slice_split is_end words) in
    let parts = other_parts (slice_split is_end words) in
    ⊎_elim
    (λ ends.
    ap (clauses_in deletions vars) (slice_split-cons_yes is_end word words ends)
    ∙ empty_first deletions vars (slice_split is_end words) (has_part is_end words)
    ∙ ap (λ r. and_then r (onward deletions vars true)) (sym (cond-true (is_end word) (Ok ([], words)) _ ends)))
    (λ other.
    ap (clauses_in deletions vars) (split_more is_end word words other)
    ∙ in_parts deletions vars true word part parts (literals_in vars (word ∷ part)) (clause_kept deletions vars word part fails)
    ∙ ap (opened deletions vars true []) (sym (split_more is_end word words other))
    ∙ opened_is deletions vars true (word ∷ words) [])
    (cases_Bool (is_end word))

opened_first : (deletions : Bool) (vars : ℕ) (keep : Bool) (lits : List Lit) (parts : List (List TextWord)) → 0 < length parts
    → opened deletions vars keep lits parts ≡ and_then (literals_in vars (first_part parts)) (λ more. closed deletions vars (kept keep (lits ++ more)) (other_parts parts))
opened_first deletions vars keep lits [] some = absurd (omega (arith, some))
opened_first deletions vars keep lits (part ∷ parts) some = refl

-- the clauses of words that begin with a deletion
pub clauses_of-deletion : (deletions : Bool) (vars : ℕ) (word : TextWord) (words : List TextWord) → (deletions && is_mark word) ≡ true → is_mark word ≡ true
    → clauses_of deletions vars (word ∷ words) ≡ and_then (literals_to_end vars [] words) (onward deletions vars false)
clauses_of-deletion deletions vars word words holds mark =
    let part = first_part (slice_split is_end words) in
    let parts = other_parts (slice_split is_end words) in
    ap (clauses_in deletions vars) (split_more is_end word words (mark_is_no_end word mark))
    ∙ in_parts deletions vars false word part parts (literals_in vars part) (clause_left deletions vars word part holds)
    ∙ sym (opened_first deletions vars false [] (slice_split is_end words) (has_part is_end words))
    ∙ opened_is deletions vars false words []

-- one clause more is stored
pub lists-push : (stored : List (SmallVec Lit)) (clause : SmallVec Lit) → lists_of (stored ++ clause ∷ []) ≡ lists_of stored ++ clause.items ∷ []
lists-push [] clause = refl
lists-push (first ∷ stored) clause = ap (λ lists. first.items ∷ lists) (lists-push stored clause)

-- after clauses that are read, a deletion adds none
pub entry_left : (deletions : Bool) (vars : ℕ) (prefix : Clauses) (word : TextWord) (words : List TextWord) (lits : List Lit) (rest : List TextWord) → deletions ≡ true → is_mark word ≡ true
    → literals_to_end vars [] words ≡ Ok (lits, rest) → prepended prefix (clauses_of deletions vars (word ∷ words)) ≡ prepended prefix (clauses_of deletions vars rest)
entry_left deletions vars prefix word words lits rest allowed mark is =
    ap (prepended prefix)
    (clauses_of-deletion deletions vars word words (and_from deletions (is_mark word) allowed mark) mark
    ∙ ap (λ r. and_then r (onward deletions vars false)) is
    ∙ prepended-none (clauses_of deletions vars rest))

pub entry_left_fault : (deletions : Bool) (vars : ℕ) (word : TextWord) (words : List TextWord) (fault : RupFault) → deletions ≡ true → is_mark word ≡ true
    → IsFaultOf (literals_to_end vars [] words) fault → IsFaultOf (clauses_of deletions vars (word ∷ words)) fault
entry_left_fault deletions vars word words fault allowed mark is =
    ⊎_elim inl
    (λ e. inr (clauses_of-deletion deletions vars word words (and_from deletions (is_mark word) allowed mark) mark ∙ ap (λ r. and_then r (onward deletions vars false)) e))
    is

-- and a clause adds itself
pub entry_kept : (deletions : Bool) (vars : ℕ) (prefix more : Clauses) (word : TextWord) (words : List TextWord) (lits : List Lit) (rest : List TextWord) → (deletions && is_mark word) ≡ false
    → literals_to_end vars [] (word ∷ words) ≡ Ok (lits, rest) → more ≡ prefix ++ lits ∷ []
    → prepended prefix (clauses_of deletions vars (word ∷ words)) ≡ prepended more (clauses_of deletions vars rest)
entry_kept deletions vars prefix more word words lits rest other is pushed =
    ap (prepended prefix) (clauses_of-clause deletions vars word words other ∙ ap (λ r. and_then r (onward deletions vars true)) is)
    ∙ prepended-twice prefix (lits ∷ []) (clauses_of deletions vars rest)
    ∙ ap (λ clauses. prepended clauses (clauses_of deletions vars rest)) (sym pushed)

pub entry_kept_fault : (deletions : Bool) (vars : ℕ) (word : TextWord) (words : List TextWord) (fault : RupFault) → (deletions && is_mark word) ≡ false
    → IsFaultOf (literals_to_end vars [] (word ∷ words)) fault → IsFaultOf (clauses_of deletions vars (word ∷ words)) fault
entry_kept_fault deletions vars word words fault other is =
    ⊎_elim inl (λ e. inr (clauses_of-clause deletions vars word words other ∙ ap (λ r. and_then r (onward deletions vars true)) e)) is
