-- What is still to be read at a place in a text.
use Rattle.std.specs.Prelude.{◌≡◌, ◌⊎◌, ℕ, ◌+◌, ◌<◌, ◌^◌, ◌==◌, Bool, true, false, Option, Some, None, Result, Ok, Err, List, [], ◌∷◌, ◌++◌, length, if◌then◌else◌}
use Rattle.std.specs.List.{slice_split}
use Rattle.std.specs.Char.{is_ascii_whitespace}
use Rattle.bb_cnf.specs.declared.clauses.Lit.{Lit}
use Rattle.bb_rup.specs.declared.fault.RupFault.{RupFault}
use Rattle.bb_rup.specs.declared.fault.RupFault.TheVariants.{Unclosed, NoMemory}
use Rattle.bb_rup.specs.declared.words.Word.{Word as StoredWord}
use Rattle.bb_rup.specs.declared.words.Place.{Place}
use Rattle.bb_rup.specs.declared.words.Found.{Found}
use Rattle.bb_rup.specs.declared.reading.Header.{Header}
use Rattle.bb_rup.specs.TextWords.{TextWord, is_comment, words_in, on_line, words_from}
use Rattle.bb_rup.specs.Dimacs.{and_then, is_end, literal_in, Sizes}

-- a line feed
abbrev pub is_newline : ℕ → Bool
is_newline b = b == 10

-- what is left from the first byte of a class on, and what comes before it
abbrev pub from_first : (ℕ → Bool) → List ℕ → List ℕ
from_first is [] = []
from_first is (b ∷ bytes) = if is b then b ∷ bytes else from_first is bytes

abbrev pub before_first : (ℕ → Bool) → List ℕ → List ℕ
before_first is [] = []
before_first is (b ∷ bytes) = if is b then [] else b ∷ before_first is bytes

-- the words of what is left of a line: one that has had a word is no comment
abbrev pub line_ahead : Bool → ℕ → List ℕ → List TextWord
line_ahead true n line = on_line n (words_in line)
line_ahead false n line = if is_comment line then [] else on_line n (words_in line)

-- the words of lines, of which the first is what is left of one
abbrev pub lines_ahead : Bool → ℕ → List (List ℕ) → List TextWord
lines_ahead begun n [] = []
lines_ahead begun n (line ∷ lines) = line_ahead begun n line ++ words_from (n + 1) lines

abbrev pub words_ahead : Bool → ℕ → List ℕ → List TextWord
words_ahead begun n rest = lines_ahead begun n (slice_split is_newline rest)

-- the words after a place
abbrev pub words_at : Place → List TextWord
words_at place = words_ahead place.begun place.line place.rest.now

-- a word without where it is in memory
abbrev pub seen : StoredWord → TextWord
seen word = record { line = word.line; bytes = word.bytes.now }

-- the words from one that was found on
abbrev pub words_with : Found → List TextWord
words_with found = seen found.word ∷ words_at found.after

abbrev pub words_if : Option Found → List TextWord
words_if None = []
words_if (Some found) = words_with found

-- the numbers of lines fit
abbrev pub IsCounted : Place → Type 0
IsCounted place = place.line + length place.rest.now < 2 ^ 32

-- a word begins here, or nothing is left
abbrev pub BeginsWord : Bool → List ℕ → Type 0
BeginsWord begun [] = Unit {0}
BeginsWord begun (b ∷ rest) = (is_ascii_whitespace b ≡ false) × (begun ≡ false → (b == 99) ≡ false)

-- literals up to the end of their clause, after these literals, and the words after it
abbrev pub literals_to_end : ℕ → List Lit → List TextWord → Result (List Lit × List TextWord) RupFault
literals_to_end vars lits [] = Err Unclosed
literals_to_end vars lits (word ∷ words) =
    if is_end word then Ok (lits, words)
    else and_then (literal_in vars word) (λ l. literals_to_end vars (lits ++ l ∷ []) words)

-- clauses before those that are read
abbrev pub prepended : List (List Lit) → Result (List (List Lit)) RupFault → Result (List (List Lit)) RupFault
prepended clauses rest = and_then rest (λ more. Ok (clauses ++ more))

-- a header without where the text is in memory, and the words after it
abbrev pub header_seen : Option Header → Option (Sizes × List TextWord)
header_seen None = None
header_seen (Some header) = Some (record { vars = header.vars; clauses = header.clauses }, words_at header.after)

-- the fault is what the words say, or memory ran out
abbrev pub IsFaultOf : {A : Type 0} → Result A RupFault → RupFault → Type 0
IsFaultOf answer fault = (fault ≡ NoMemory) ⊎ (answer ≡ Err fault)
