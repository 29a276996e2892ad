-- What a text in the DIMACS format means: clauses after the header `p cnf V K`, or, without a header, the additions of
-- a proof by reverse unit propagation, where a clause that begins with `d` is a deletion. Each clause ends with the
-- word `0`. Of several faults the first among the words is reported, then that the last clause has no end, then that
-- there are not K clauses.
use Rattle.std.specs.Prelude.{ℕ, ◌==◌, Bool, true, false, ◌&&◌, nat_le, Option, Some, None, option_map, option_and_then, Result, Ok, Err, List, [], ◌∷◌, ◌++◌, length, codes, bytes_eq, if◌then◌else◌}
use Rattle.std.specs.List.{slice_split}
use Rattle.bb_cnf.specs.declared.clauses.Lit.{Lit}
use Rattle.bb_cnf.specs.Clauses.{Formula}
use Rattle.bb_rup.specs.declared.fault.RupFault.{RupFault}
use Rattle.bb_rup.specs.declared.fault.RupFault.TheVariants.{Header, Token, Literal, Unclosed, Count}
use Rattle.bb_rup.specs.TextWords.{TextWord, words_of}
use Rattle.bb_rup.specs.Numerals.{numeral_value, literal_of}

-- what is made of a value, or the fault that came before it
abbrev pub and_then : {A B : Type 0} → Result A RupFault → (A → Result B RupFault) → Result B RupFault
and_then (Ok x) next = next x
and_then (Err fault) next = Err fault

-- the word `0`
abbrev pub is_end : TextWord → Bool
is_end word = bytes_eq word.bytes (codes "0")

-- the word `d`
abbrev pub is_mark : TextWord → Bool
is_mark word = bytes_eq word.bytes (codes "d")

-- a literal, where its variable is at most vars
abbrev pub within : ℕ → ℕ → Option Lit → Result Lit RupFault
within vars line None = Err (Token line)
within vars line (Some l) = if nat_le l.var vars then Ok l else Err (Literal line)

-- the literal of a word
abbrev pub literal_in : ℕ → TextWord → Result Lit RupFault
literal_in vars word = within vars word.line (literal_of word.bytes)

-- the literals of words
abbrev pub literals_in : ℕ → List TextWord → Result (List Lit) RupFault
literals_in vars [] = Ok []
literals_in vars (word ∷ words) = and_then (literal_in vars word) (λ l. and_then (literals_in vars words) (λ lits. Ok (l ∷ lits)))

-- the clause of these words, or none where it is a deletion: where these are allowed, its first word may be `d`
abbrev pub clause_in : Bool → ℕ → List TextWord → Result (List (List Lit)) RupFault
clause_in deletions vars [] = Ok ([] ∷ [])
clause_in deletions vars (word ∷ words) =
    if deletions && is_mark word
    then and_then (literals_in vars words) (λ lits. Ok [])
    else and_then (literals_in vars (word ∷ words)) (λ lits. Ok (lits ∷ []))

-- the clauses of parts, which the word `0` separates: the last part has no end, and must be empty. There is always one
-- part.
abbrev pub clauses_in : Bool → ℕ → List (List TextWord) → Result (List (List Lit)) RupFault
clauses_in deletions vars [] = Ok []
clauses_in deletions vars (part ∷ []) =
    and_then (clause_in deletions vars part) (λ clause. if length part == 0 then Ok [] else Err Unclosed)
clauses_in deletions vars (part ∷ next ∷ parts) =
    and_then (clause_in deletions vars part)
    (λ clause. and_then (clauses_in deletions vars (next ∷ parts)) (λ clauses. Ok (clause ++ clauses)))

-- the clauses of words
abbrev pub clauses_of : Bool → ℕ → List TextWord → Result (List (List Lit)) RupFault
clauses_of deletions vars words = clauses_in deletions vars (slice_split is_end words)

-- the numbers of variables and of clauses that a header gives
pub record Sizes : Type 0 where
  pub vars : ℕ
  pub clauses : ℕ

-- a number of a header, at most 8,000,000
abbrev pub size_of : List ℕ → Option ℕ
size_of word = option_and_then (λ n. if nat_le n 8000000 then Some n else None) (numeral_value word)

-- the header of four words
abbrev pub sizes_of : TextWord → TextWord → TextWord → TextWord → Option Sizes
sizes_of p cnf vars clauses =
    if bytes_eq p.bytes (codes "p") && bytes_eq cnf.bytes (codes "cnf")
    then option_and_then (λ v. option_map (λ k. record { vars = v; clauses = k }) (size_of clauses.bytes)) (size_of vars.bytes)
    else None

-- the header of the first four words, and the words after it
abbrev pub header_of : List TextWord → Option (Sizes × List TextWord)
header_of (p ∷ cnf ∷ vars ∷ clauses ∷ words) = option_map (λ sizes. (sizes, words)) (sizes_of p cnf vars clauses)
header_of words = None

-- the line of the first word, or 1
abbrev pub first_line : List TextWord → ℕ
first_line [] = 1
first_line (word ∷ words) = word.line

-- the formula of a header and of the words after it; the header's fault has this line
abbrev pub formula_after : ℕ → Option (Sizes × List TextWord) → Result Formula RupFault
formula_after line None = Err (Header line)
formula_after line (Some (sizes, words)) =
    and_then (clauses_of false sizes.vars words)
    (λ clauses. if length clauses == sizes.clauses then Ok (record { vars = sizes.vars; clauses = clauses }) else Err Count)

-- the formula of a text, or its fault
abbrev pub dimacs_of : List ℕ → Result Formula RupFault
dimacs_of text = formula_after (first_line (words_of text)) (header_of (words_of text))

-- the additions of a proof's text over variables up to vars, or its fault; deletions are read and left out
abbrev pub additions_of : List ℕ → ℕ → Result (List (List Lit)) RupFault
additions_of text vars = clauses_of true vars (words_of text)
