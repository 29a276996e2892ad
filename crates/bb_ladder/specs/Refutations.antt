-- What may be answered to the text of a formula and that of clause additions: the line of the first fault of the two
-- texts, or whether each addition follows by unit propagation, as in Goldberg and Novikov, 2003. Where all do, no
-- assignment makes all clauses of the formula true.
use Rattle.std.specs.Prelude.{◌≡◌, ◌⊎◌, ℕ, List, [], ◌++◌, Ok, Err, codes, decimal}
use Rattle.bb_cnf.specs.declared.clauses.Lit.{Lit}
use Rattle.bb_cnf.specs.Clauses.{Formula}
use Rattle.bb_cnf.specs.Truth.{HaveNoModel}
use Rattle.bb_rup.specs.Additions.{IsFirstWithout, Succeed}
use Rattle.bb_rup.specs.Dimacs.{additions_of, dimacs_of}
use Rattle.bb_rup.specs.declared.fault.RupFault.{RupFault}
use Rattle.bb_rup.specs.declared.fault.RupFault.TheVariants.{Header, Token, Literal, Unclosed, Count, NoMemory}
use Rattle.bb_frontend.specs.Refusals.{at_line, refusal}

-- the fault of one of the texts; lack of memory has no words
abbrev pub rup_words : RupFault → List ℕ
rup_words (Header line) = at_line (codes "header") line
rup_words (Token line) = at_line (codes "token") line
rup_words (Literal line) = at_line (codes "literal") line
rup_words Unclosed = codes "unclosed"
rup_words Count = codes "count"
rup_words NoMemory = []

-- the line for the first addition that does not follow
abbrev pub no_line : ℕ → List ℕ
no_line n = codes "rup no " ++ decimal n ++ codes "\n"

-- the first text is this formula, and the second these additions over its variables
pub record AreRead (first second : List ℕ) (formula : Formula) (adds : List (List Lit)) : Type 0 where
  pub reads_formula : dimacs_of first ≡ Ok formula
  pub reads_additions : additions_of second formula.vars ≡ Ok adds

-- it is the line of the first fault of the two texts: that of the first text comes before that of the second
pub data IsCheckRefusal (first second line : List ℕ) : Type 0 where
  OfFormula : (fault : RupFault) → dimacs_of first ≡ Err fault
      → line ≡ refusal (codes "cnf") (rup_words fault) → IsCheckRefusal first second line
  OfAdditions : (formula : Formula) (fault : RupFault) → dimacs_of first ≡ Ok formula
      → additions_of second formula.vars ≡ Err fault
      → line ≡ refusal (codes "rup") (rup_words fault) → IsCheckRefusal first second line

-- what is reported of additions to clauses
pub data IsRefutationReport (clauses adds : List (List Lit)) (status : ℕ) (text : List ℕ) : Type 0 where
  Yes : Succeed clauses adds → status ≡ 0 → text ≡ codes "rup yes\n" → IsRefutationReport clauses adds status text
  No : (n : ℕ) → IsFirstWithout clauses adds n → status ≡ 1 → text ≡ no_line n → IsRefutationReport clauses adds status text

-- the possible answers to the two texts
pub data Checks (first second : List ℕ) (status : ℕ) (text : List ℕ) : Type 0 where
  Faulty : IsCheckRefusal first second text → status ≡ 2 → Checks first second status text
  Checked : (formula : Formula) (adds : List (List Lit)) → AreRead first second formula adds
      → IsRefutationReport formula.clauses adds status text → Checks first second status text

-- the second text refutes the first: its additions succeed, so no assignment makes all clauses true
abbrev pub Refutes : List ℕ → List ℕ → Type 0
Refutes first second = (formula : Formula) × (adds : List (List Lit)) × AreRead first second formula adds
    × Succeed formula.clauses adds × HaveNoModel formula.clauses

-- the addition of this number is the first that does not follow
abbrev pub FailsAt : List ℕ → List ℕ → ℕ → Type 0
FailsAt first second n = (formula : Formula) × (adds : List (List Lit)) × AreRead first second formula adds
    × IsFirstWithout formula.clauses adds n

-- the status says whether additions succeed
abbrev pub ReportsWhether : Formula → List (List Lit) → ℕ → Type 0
ReportsWhether formula adds status = ((status ≡ 0) × Succeed formula.clauses adds)
    ⊎ ((status ≡ 1) × (Succeed formula.clauses adds → ⊥))

-- laws that a reader expects

pub record CheckLaws : Type 0 where
  -- the answer to two texts is one, and there is one
  pub one : (first second : List ℕ) (status other : ℕ) (text reported : List ℕ) → Checks first second status text
      → Checks first second other reported → (status ≡ other) × (text ≡ reported)
  pub some : (first second : List ℕ) → (status : ℕ) × (text : List ℕ) × Checks first second status text
  -- what a status says, and that it comes where it is due
  pub yes : (first second : List ℕ) (status : ℕ) (text : List ℕ) → Checks first second status text → status ≡ 0
      → (text ≡ codes "rup yes\n") × Refutes first second
  pub no : (first second : List ℕ) (status : ℕ) (text : List ℕ) → Checks first second status text → status ≡ 1
      → (n : ℕ) × (text ≡ no_line n) × FailsAt first second n
  pub refused : (first second : List ℕ) (status : ℕ) (text : List ℕ) → Checks first second status text → status ≡ 2
      → IsCheckRefusal first second text
  pub stays_refused : (first second : List ℕ) (status : ℕ) (text line : List ℕ) → Checks first second status text
      → IsCheckRefusal first second line → (status ≡ 2) × (text ≡ line)
  pub decided : (first second : List ℕ) (formula : Formula) (adds : List (List Lit)) (status : ℕ) (text : List ℕ)
      → AreRead first second formula adds → Checks first second status text → ReportsWhether formula adds status
  -- it is no status of a comparison that is left open, or of a file that was not read
  pub small : (first second : List ℕ) (status : ℕ) (text : List ℕ) → Checks first second status text
      → (status ≡ 3 → ⊥) × (status ≡ 4 → ⊥)
