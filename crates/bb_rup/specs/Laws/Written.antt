-- Formulas and proofs as text: one clause a line, with any comments between the lines.
use Rattle.std.specs.Prelude.{◌≡◌, ℕ, ◌==◌, ◌≤◌, Bool, true, false, not, Ok, List, [], ◌++◌, length, map, filter, flat_map, codes, decimal, if◌then◌else◌}
use Rattle.std.specs.List.{list_all, AllByRecursion}
use Rattle.bb_cnf.specs.declared.clauses.Lit.{Lit}
use Rattle.bb_cnf.specs.Clauses.{HasVariablesWithin}
use Rattle.bb_rup.specs.Dimacs.{dimacs_of, additions_of}

-- comments and then a clause, or a deletion
pub record Entry : Type 0 where
  pub comments : List (List ℕ)
  pub deletion : Bool
  pub clause : List Lit

-- a comment's line
abbrev pub comment_line : List ℕ → List ℕ
comment_line comment = codes "c" ++ comment ++ codes "\n"

-- the sign and the variable of a literal, and a blank
abbrev pub literal_text : Lit → List ℕ
literal_text l = (if l.neg then codes "-" else []) ++ decimal l.var ++ codes " "

-- the lines of an entry
abbrev pub entry_text : Entry → List ℕ
entry_text entry =
    flat_map comment_line entry.comments
    ++ (if entry.deletion then codes "d " else [])
    ++ flat_map literal_text entry.clause
    ++ codes "0\n"

-- the lines of entries, and comments after them
abbrev pub proof_text : List Entry → List (List ℕ) → List ℕ
proof_text entries last = flat_map entry_text entries ++ flat_map comment_line last

-- comments, the header, and the lines of a proof
abbrev pub formula_text : List (List ℕ) → ℕ → List Entry → List (List ℕ) → List ℕ
formula_text first vars entries last =
    flat_map comment_line first
    ++ codes "p cnf " ++ decimal vars ++ codes " " ++ decimal (length entries) ++ codes "\n"
    ++ proof_text entries last

-- the clauses of all entries, and of those that are no deletions
abbrev pub all_clauses : List Entry → List (List Lit)
all_clauses entries = map (λ entry. entry.clause) entries

abbrev pub added_clauses : List Entry → List (List Lit)
added_clauses entries = all_clauses (filter (λ entry. not entry.deletion) entries)

-- no comment has a line feed
abbrev pub AreLines : List (List ℕ) → Type 0
AreLines comments = AllByRecursion (λ comment. list_all (λ b. not (b == 10)) comment ≡ true) comments

-- the comments of all entries are lines
abbrev pub HaveLines : List Entry → Type 0
HaveLines entries = AllByRecursion (λ entry. AreLines entry.comments) entries

-- what is written so is read as it was
pub record WrittenLaws : Type 0 where
  pub formula : (first last : List (List ℕ)) (vars : ℕ) (entries : List Entry)
      → AreLines first → HaveLines entries → AreLines last → AllByRecursion (λ entry. entry.deletion ≡ false) entries
      → vars ≤ 8000000 → length entries ≤ 8000000 → HasVariablesWithin vars (all_clauses entries)
      → dimacs_of (formula_text first vars entries last) ≡ Ok (record { vars = vars; clauses = all_clauses entries })
  pub additions : (vars : ℕ) (entries : List Entry) (last : List (List ℕ)) → HaveLines entries → AreLines last
      → vars ≤ 8000000 → HasVariablesWithin vars (all_clauses entries)
      → additions_of (proof_text entries last) vars ≡ Ok (added_clauses entries)
