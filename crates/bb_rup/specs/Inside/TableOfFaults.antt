-- When texts are at fault. Each word among the clauses must be one of three: an end, the `d` of a deletion in its place,
-- or a literal of a variable in its range.
use Rattle.std.specs.Prelude.{◌≡◌, ◌≢◌, ◌≤◌, ◌<◌, ◌⊎◌, ℕ, Bool, true, false, ◌&&◌, ◌||◌, Some, None, Result, Ok, Err, MatchResult, List, [], ◌∷◌, length, codes}
use Rattle.bb_cnf.specs.declared.clauses.Lit.{Lit}
use Rattle.bb_cnf.specs.Clauses.{Formula}
use Rattle.bb_rup.specs.declared.fault.RupFault.{RupFault}
use Rattle.bb_rup.specs.declared.fault.RupFault.TheVariants.{Header, Token, Literal, Unclosed, Count}
use Rattle.bb_rup.specs.TextWords.{TextWord, words_of}
use Rattle.bb_rup.specs.Numerals.{numeral_value, literal_of}
use Rattle.bb_rup.specs.Dimacs.{is_end, is_mark, clauses_of, Sizes, first_line, dimacs_of}

-- an end, or the `d` of a deletion where these are allowed and a clause begins
abbrev pub is_sign : Bool → Bool → TextWord → Bool
is_sign deletions begins word = is_end word || (deletions && begins && is_mark word)

-- a sign, or a literal of a variable up to vars
abbrev pub IsSound : Bool → ℕ → Bool → TextWord → Type 0
IsSound deletions vars begins word =
    (is_sign deletions begins word ≡ true) ⊎ ((l : Lit) × (literal_of word.bytes ≡ Some l) × (l.var ≤ vars))

-- the fault of a word that is no sign
pub data IsFault (deletions : Bool) (vars : ℕ) (begins : Bool) (word : TextWord) (fault : RupFault) : Type 0 where
  -- it has not the form of a literal
  IsNoLiteral : is_sign deletions begins word ≡ false → literal_of word.bytes ≡ None → fault ≡ Token word.line
      → IsFault deletions vars begins word fault
  -- it has, and its variable is above vars
  IsAbove : is_sign deletions begins word ≡ false → (l : Lit) → literal_of word.bytes ≡ Some l → vars < l.var
      → fault ≡ Literal word.line → IsFault deletions vars begins word fault

-- each word is sound; after an end a clause begins
abbrev pub AreSound : Bool → ℕ → Bool → List TextWord → Type 0
AreSound deletions vars begins [] = Unit {0}
AreSound deletions vars begins (word ∷ words) = IsSound deletions vars begins word × AreSound deletions vars (is_end word) words

-- the first word that is not sound has this fault
abbrev pub IsFirstFault : Bool → ℕ → Bool → List TextWord → RupFault → Type 0
IsFirstFault deletions vars begins [] fault = ⊥
IsFirstFault deletions vars begins (word ∷ words) fault =
    IsFault deletions vars begins word fault
    ⊎ (IsSound deletions vars begins word × IsFirstFault deletions vars (is_end word) words fault)

-- there is no word, or the last is an end
abbrev pub is_closed : List TextWord → Bool
is_closed [] = true
is_closed (word ∷ []) = is_end word
is_closed (word ∷ next ∷ words) = is_closed (next ∷ words)

-- how words give clauses: each fault is reported exactly in its row, and clauses where no row is met
pub record ClauseTable : Type 0 where
  pub word : (deletions : Bool) (vars : ℕ) (words : List TextWord) (fault : RupFault) → IsFirstFault deletions vars true words fault
      → clauses_of deletions vars words ≡ Err fault
  pub unclosed : (deletions : Bool) (vars : ℕ) (words : List TextWord) → AreSound deletions vars true words → is_closed words ≡ false
      → clauses_of deletions vars words ≡ Err Unclosed
  pub reported : (deletions : Bool) (vars : ℕ) (words : List TextWord) → MatchResult (clauses_of deletions vars words)
      (λ clauses. AreSound deletions vars true words × (is_closed words ≡ true))
      (λ fault. IsFirstFault deletions vars true words fault
      ⊎ ((fault ≡ Unclosed) × AreSound deletions vars true words × (is_closed words ≡ false)))

-- four words are a header of these sizes
pub record IsHeader (p cnf vars clauses : TextWord) (sizes : Sizes) : Type 0 where
  pub first : p.bytes ≡ codes "p"
  pub second : cnf.bytes ≡ codes "cnf"
  pub variables : numeral_value vars.bytes ≡ Some sizes.vars
  pub clause_number : numeral_value clauses.bytes ≡ Some sizes.clauses
  pub few_variables : sizes.vars ≤ 8000000
  pub few_clauses : sizes.clauses ≤ 8000000

-- the first four words are such, and more words follow
pub record BeginsWithHeader (words : List TextWord) (sizes : Sizes) (more : List TextWord) : Type 0 where
  pub p : TextWord
  pub cnf : TextWord
  pub vars : TextWord
  pub clauses : TextWord
  pub splits : words ≡ p ∷ cnf ∷ vars ∷ clauses ∷ more
  pub header : IsHeader p cnf vars clauses sizes

-- no header of any sizes begins the words
abbrev pub HasNoHeader : List TextWord → Type 0
HasNoHeader words = (sizes : Sizes) (more : List TextWord) → BeginsWithHeader words sizes more → ⊥

-- what is wrong with the words after a header: a fault of their own, or another number of clauses
abbrev pub IsFaultAfter : Sizes → List TextWord → RupFault → Type 0
IsFaultAfter sizes more fault =
    (clauses_of false sizes.vars more ≡ Err fault)
    ⊎ ((clauses : List (List Lit)) × (clauses_of false sizes.vars more ≡ Ok clauses) × (length clauses ≢ sizes.clauses) × (fault ≡ Count))

-- the formula that words give, or their fault, where the header's fault has this line
abbrev pub IsReportedFormula : List TextWord → ℕ → Result Formula RupFault → Type 0
IsReportedFormula words line answer = MatchResult answer
    (λ formula. (more : List TextWord) × BeginsWithHeader words (record { vars = formula.vars; clauses = length formula.clauses }) more
    × (clauses_of false formula.vars more ≡ Ok formula.clauses))
    (λ fault. (HasNoHeader words × (fault ≡ Header line))
    ⊎ ((sizes : Sizes) × (more : List TextWord) × BeginsWithHeader words sizes more × IsFaultAfter sizes more fault))

-- how a text gives a formula, row by row; nothing else is reported
pub record FormulaTable : Type 0 where
  pub header : (text : List ℕ) → HasNoHeader (words_of text) → dimacs_of text ≡ Err (Header (first_line (words_of text)))
  pub fault : (text : List ℕ) (sizes : Sizes) (more : List TextWord) (fault : RupFault)
      → BeginsWithHeader (words_of text) sizes more → IsFaultAfter sizes more fault → dimacs_of text ≡ Err fault
  pub read : (text : List ℕ) (sizes : Sizes) (more : List TextWord) (clauses : List (List Lit))
      → BeginsWithHeader (words_of text) sizes more → clauses_of false sizes.vars more ≡ Ok clauses → length clauses ≡ sizes.clauses
      → dimacs_of text ≡ Ok (record { vars = sizes.vars; clauses = clauses })
  pub reported : (text : List ℕ) → IsReportedFormula (words_of text) (first_line (words_of text)) (dimacs_of text)
  -- words begin with a header or do not, and with one at most
  pub header_or_none : (words : List TextWord) → ((sizes : Sizes) × (more : List TextWord) × BeginsWithHeader words sizes more)
      ⊎ HasNoHeader words
  pub one_header : (words : List TextWord) (sizes others : Sizes) (more rest : List TextWord)
      → BeginsWithHeader words sizes more → BeginsWithHeader words others rest → (sizes ≡ others) × (more ≡ rest)
