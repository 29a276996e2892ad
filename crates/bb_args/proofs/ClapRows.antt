-- What clap keeps of arguments, one row for each, and what a further use of one does to the rows.
use Rattle.std.proofs.Common.{◌≡◌, ◌∙◌, ◌≤◌, ◌<◌, ◌+◌, ℕ, Bool, true, false, List, [], ◌∷◌, ◌++◌, None, Some, suc, zero, ap, ap₂, codes, refl, sym, arith, append_assoc, append-nil}
use Rattle.std.specs.Prelude.{◌&&◌, ◌||◌, length, nat_le, not}
use Rattle.std.specs.List.{list_all, list_any}
use Rattle.std.specs.Str.{bytes_eq}
use lib.Pointwise.{bytes_decides}
use Rattle.clap.specs.Faults.{use_fault}
use Rattle.clap.specs.Walk.{Row, Rule, at_row, has_row, more_values, reading_by, used, with_values, without}
use Rattle.clap.specs.declared.builder.value_parser.Reading.{Reading}
use Rattle.clap.specs.declared.parser.matches.ValueSource.TheVariants.{CommandLine}
use Rattle.bb_args.specs.CommandLines.{Argument, File, Flag, Text, Valued, are_once, are_taken, comes_again, files_in, flags, has_option_name, is_among, options}
use Rattle.bb_args.proofs.ClapRules.{apart, file_rule, flag_rule, option_rule}
use Rattle.bb_args.proofs.ClapTurns.{no_kind}

abbrev pub file_name : ℕ → Text
file_name zero = codes "SPEC"
file_name (suc k) = codes "IMPL"

abbrev pub row : Rule → List Text → Row
row a values = record { id = a.id; values = values; count = None; source = Some CommandLine; reading = reading_by a }

-- the row of an argument after so many files
abbrev pub row_at : ℕ → Argument → Row
row_at k (File text) = row (file_rule (suc k) (file_name k)) (text ∷ [])
row_at k (Flag name) = row (flag_rule name) (codes "true" ∷ [])
row_at k (Valued name value) = row (option_rule name) (value ∷ [])

abbrev pub next : ℕ → Argument → ℕ
next k (File text) = suc k
next k (Flag name) = k
next k (Valued name value) = k

abbrev pub rows_from : ℕ → List Argument → List Row
rows_from k [] = []
rows_from k (a ∷ rest) = row_at k a ∷ rows_from (next k a) rest

-- how many files there are after them
abbrev pub after : ℕ → List Argument → ℕ
after k [] = k
after k (a ∷ rest) = after (next k a) rest

pub rows-last : (k : ℕ) (xs : List Argument) (a : Argument) → rows_from k (xs ++ a ∷ []) ≡ rows_from k xs ++ row_at (after k xs) a ∷ []
rows-last k [] a = refl
rows-last k (x ∷ xs) a = ap (λ rs. row_at k x ∷ rs) (rows-last (next k x) xs a)

pub after-last : (k : ℕ) (xs : List Argument) (a : Argument) → after k (xs ++ a ∷ []) ≡ next (after k xs) a
after-last k [] a = refl
after-last k (x ∷ xs) a = after-last (next k x) xs a

pub after-files : (k : ℕ) (xs : List Argument) → after k xs ≡ k + length (files_in xs)
after-files k [] = omega arith
after-files k (File text ∷ xs) = omega (arith, after-files (suc k) xs)
after-files k (Flag name ∷ xs) = after-files k xs
after-files k (Valued name value ∷ xs) = after-files k xs

-- a name is that of a flag or of an option
abbrev pub is_known : Argument → Bool
is_known (File text) = true
is_known (Flag name) = is_among flags name
is_known (Valued name value) = is_among options name

-- no rows of a name
pub at_row-none : (id : Text) (change : Row → List Row) (missing rows : List Row) → has_row id rows ≡ false → at_row id change missing rows ≡ rows ++ missing
at_row-none id change missing [] none = refl
at_row-none id change missing (r ∷ rs) none = by (bytes_eq r.id id) refl none (at_row-none id change missing rs)
  where
    by : (b : Bool) → bytes_eq r.id id ≡ b → (b || has_row id rs) ≡ false → (has_row id rs ≡ false → at_row id change missing rs ≡ rs ++ missing) → at_row id change missing (r ∷ rs) ≡ r ∷ (rs ++ missing)
    by true e both more = cc both
    by false e both more = rw e (ap (λ l. r ∷ l) (more both))

put_once : (id : Text) (how : Reading) (values : List Text) (rows : List Row) → has_row id rows ≡ false
    → with_values id how CommandLine values (without id rows) ≡ rows ++ record { id = id; values = values; count = None; source = Some CommandLine; reading = how } ∷ []
put_once id how values rows none =
    let stays = at_row-none id (λ _. []) [] rows none ∙ append-nil rows in
    ap (λ rs. with_values id how CommandLine values rs) stays ∙ at_row-none id (more_values CommandLine values) (record { id = id; values = values; count = None; source = Some CommandLine; reading = how } ∷ []) rows none

-- a use that is the first of its name, and one that is not
module _ (rows : List Row) where
  pub option_used : (name value : Text) → has_row name rows ≡ false → used (option_rule name) (value ∷ []) rows ≡ rows ++ row (option_rule name) (value ∷ []) ∷ []
  option_used name value none = put_once name (reading_by (option_rule name)) (value ∷ []) rows none

  pub flag_used : (name : Text) → has_row name rows ≡ false → used (flag_rule name) [] rows ≡ rows ++ row (flag_rule name) (codes "true" ∷ []) ∷ []
  flag_used name none = put_once name (reading_by (flag_rule name)) (codes "true" ∷ []) rows none

  pub file_used : (place : ℕ) (name text : Text) → has_row name rows ≡ false → used (file_rule place name) (text ∷ []) rows ≡ rows ++ row (file_rule place name) (text ∷ []) ∷ []
  file_used place name text none = put_once name (reading_by (file_rule place name)) (text ∷ []) rows none

  pub option_fault : (name value : Text) → no_kind (use_fault false (option_rule name) (value ∷ []) rows) ≡ not (has_row name rows)
  option_fault name value = by (has_row name rows) refl
    where
      by : (b : Bool) → has_row name rows ≡ b → no_kind (use_fault false (option_rule name) (value ∷ []) rows) ≡ not (has_row name rows)
      by true e = rw e refl
      by false e = rw e refl

  pub flag_fault : (name : Text) → no_kind (use_fault false (flag_rule name) [] rows) ≡ not (has_row name rows)
  flag_fault name = by (has_row name rows) refl
    where
      by : (b : Bool) → has_row name rows ≡ b → no_kind (use_fault false (flag_rule name) [] rows) ≡ not (has_row name rows)
      by true e = rw e refl
      by false e = rw e refl

  pub file_fault : (place : ℕ) (name text : Text) → no_kind (use_fault false (file_rule place name) (text ∷ []) rows) ≡ not (has_row name rows)
  file_fault place name text = by (has_row name rows) refl
    where
      by : (b : Bool) → has_row name rows ≡ b → no_kind (use_fault false (file_rule place name) (text ∷ []) rows) ≡ not (has_row name rows)
      by true e = rw e refl
      by false e = rw e refl

-- a name that is neither file's
pub record IsOther (name : Text) : Type 0 where
  pub spec : bytes_eq (codes "SPEC") name ≡ false
  pub imp : bytes_eq (codes "IMPL") name ≡ false

pub other_flag : (name : Text) → is_among flags name ≡ true → IsOther name
other_flag name is = record { spec = apart (codes "SPEC") flags refl name is; imp = apart (codes "IMPL") flags refl name is }

pub other_option : (name : Text) → is_among options name ≡ true → IsOther name
other_option name is = record { spec = apart (codes "SPEC") options refl name is; imp = apart (codes "IMPL") options refl name is }

pub no_file : (k : ℕ) (name : Text) → IsOther name → bytes_eq (file_name k) name ≡ false
no_file zero name other = other.spec
no_file (suc k) name other = other.imp

-- a name has a row where it has an argument
pub row-named : (name : Text) → IsOther name → (k : ℕ) (xs : List Argument) → has_row name (rows_from k xs) ≡ list_any (has_option_name name) xs
row-named name other k [] = refl
row-named name other k (File text ∷ xs) = rw (no_file k name other) (row-named name other (suc k) xs)
row-named name other k (Flag m ∷ xs) = ap (λ b. bytes_eq m name || b) (row-named name other k xs)
row-named name other k (Valued m value ∷ xs) = ap (λ b. bytes_eq m name || b) (row-named name other k xs)

pub same_eq : (a b : Text) → bytes_eq a b ≡ bytes_eq b a
same_eq a b = by (bytes_eq a b) refl (bytes_eq b a) refl
  where
    by : (p : Bool) → bytes_eq a b ≡ p → (q : Bool) → bytes_eq b a ≡ q → p ≡ q
    by true e true f = refl
    by false e false f = refl
    by true e false f = sym ((bytes_decides b a).1 (sym ((bytes_decides a b).0 e))) ∙ f
    by false e true f = sym e ∙ (bytes_decides a b).1 (sym ((bytes_decides b a).0 f))

after-least : (k : ℕ) (xs : List Argument) → k ≤ after k xs
after-least k xs = omega (arith, after-files k xs)

-- the next file has no row
pub file-free : (j k : ℕ) (xs : List Argument) → after k xs ≡ j → j < 2 → list_all is_known xs ≡ true → has_row (file_name j) (rows_from k xs) ≡ false
file-free j k [] is few known = refl
file-free zero k (File text ∷ xs) is few known = absurd (omega (arith, is, after-least (suc k) xs))
file-free (suc zero) zero (File text ∷ xs) is few known = file-free 1 1 xs is few known
file-free (suc zero) (suc k) (File text ∷ xs) is few known = absurd (omega (arith, is, after-least (suc (suc k)) xs))
file-free (suc (suc j)) k (File text ∷ xs) is few known = absurd (omega (arith, few))
file-free j k (Flag m ∷ xs) is few known = by (is_among flags m) refl known (file-free j k xs is few)
  where
    by : (b : Bool) → is_among flags m ≡ b → (b && list_all is_known xs) ≡ true → (list_all is_known xs ≡ true → has_row (file_name j) (rows_from k xs) ≡ false) → has_row (file_name j) (rows_from k (Flag m ∷ xs)) ≡ false
    by true e both more = rw (same_eq m (file_name j), no_file j m (other_flag m e)) (more both)
    by false e both more = cc both
file-free j k (Valued m value ∷ xs) is few known = by (is_among options m) refl known (file-free j k xs is few)
  where
    by : (b : Bool) → is_among options m ≡ b → (b && list_all is_known xs) ≡ true → (list_all is_known xs ≡ true → has_row (file_name j) (rows_from k xs) ≡ false) → has_row (file_name j) (rows_from k (Valued m value ∷ xs)) ≡ false
    by true e both more = rw (same_eq m (file_name j), no_file j m (other_option m e)) (more both)
    by false e both more = cc both

any-more : (test : Argument → Bool) (xs : List Argument) (a : Argument) → list_any test (xs ++ a ∷ []) ≡ (list_any test xs || (test a || false))
any-more test [] a = refl
any-more test (x ∷ xs) a = by (test x) refl (any-more test xs a)
  where
    by : (b : Bool) → test x ≡ b → list_any test (xs ++ a ∷ []) ≡ (list_any test xs || (test a || false)) → list_any test ((x ∷ xs) ++ a ∷ []) ≡ (list_any test (x ∷ xs) || (test a || false))
    by true e more = rw e refl
    by false e more = rw e more

or-past : (p q : Bool) → (p || q) ≡ ((p || false) || q)
or-past true q = refl
or-past false q = refl

add-nothing : (n : ℕ) → n + 0 ≡ n
add-nothing n = omega arith

pub both : (a b : Bool) → (a && b) ≡ true → (a ≡ true) × (b ≡ true)
both true b e = (refl, e)
both false b e = cc

pub is_false : (b : Bool) → not b ≡ true → b ≡ false
is_false true e = cc
is_false false e = refl

-- at most once, and two files at most, with one more
again-more : (x : Argument) (xs : List Argument) (a : Argument) → comes_again x (xs ++ a ∷ []) ≡ (comes_again x xs || comes_again x (a ∷ []))
again-more (File text) xs a = refl
again-more (Flag name) xs a = any-more (has_option_name name) xs a
again-more (Valued name value) xs a = any-more (has_option_name name) xs a

pub again-alike : (x a : Argument) → comes_again x (a ∷ []) ≡ comes_again a (x ∷ [])
again-alike (File text) (File other) = refl
again-alike (File text) (Flag other) = refl
again-alike (File text) (Valued other value) = refl
again-alike (Flag name) (File text) = refl
again-alike (Flag name) (Flag other) = ap (λ b. b || false) (same_eq other name)
again-alike (Flag name) (Valued other value) = ap (λ b. b || false) (same_eq other name)
again-alike (Valued name value) (File text) = refl
again-alike (Valued name value) (Flag other) = ap (λ b. b || false) (same_eq other name)
again-alike (Valued name value) (Valued other more) = ap (λ b. b || false) (same_eq other name)

pub again-cons : (a x : Argument) (xs : List Argument) → comes_again a (x ∷ xs) ≡ (comes_again a (x ∷ []) || comes_again a xs)
again-cons (File text) x xs = refl
again-cons (Flag name) x xs = or-past (has_option_name name x) (list_any (has_option_name name) xs)
again-cons (Valued name value) x xs = or-past (has_option_name name x) (list_any (has_option_name name) xs)

regroup : (s r o t : Bool) → (not (r || s) && (o && not t)) ≡ ((not r && o) && not (s || t))
regroup true true o t = refl
regroup true false true t = refl
regroup true false false t = refl
regroup false true o t = refl
regroup false false o t = refl

pub once-more : (xs : List Argument) (a : Argument) → are_once (xs ++ a ∷ []) ≡ (are_once xs && not (comes_again a xs))
once-more [] (File text) = refl
once-more [] (Flag name) = refl
once-more [] (Valued name value) = refl
once-more (x ∷ xs) a =
    ap₂ (λ p q. not p && q) (again-more x xs a) (once-more xs a)
    ∙ regroup (comes_again x (a ∷ [])) (comes_again x xs) (are_once xs) (comes_again a xs)
    ∙ ap (λ b. (not (comes_again x xs) && are_once xs) && not b) (ap (λ b. b || comes_again a xs) (again-alike x a) ∙ sym (again-cons a x xs))

pub files-more : (xs : List Argument) (a : Argument) → length (files_in (xs ++ a ∷ [])) ≡ length (files_in xs) + length (files_in (a ∷ []))
files-more [] a = omega arith
files-more (File text ∷ xs) a = omega (arith, files-more xs a)
files-more (Flag name ∷ xs) a = files-more xs a
files-more (Valued name value ∷ xs) a = files-more xs a

regroup-few : (p q r : Bool) → (p && (q && r)) ≡ ((p && q) && r)
regroup-few true q r = refl
regroup-few false q r = refl

pub named-more : (xs : List Argument) (a : Argument) → files_in (a ∷ []) ≡ [] → are_taken (xs ++ a ∷ []) ≡ (are_taken xs && not (comes_again a xs))
named-more xs a none =
    ap₂ (λ n b. nat_le n 2 && b) (files-more xs a ∙ ap (λ l. length (files_in xs) + length l) none ∙ add-nothing (length (files_in xs))) (once-more xs a)
    ∙ regroup-few (nat_le (length (files_in xs)) 2) (are_once xs) (not (comes_again a xs))

-- what is not taken is not taken with more
fewer : (xs : List Argument) (a : Argument) → are_taken (xs ++ a ∷ []) ≡ true → are_taken xs ≡ true
fewer xs a taken =
    let parts = both (nat_le (length (files_in (xs ++ a ∷ []))) 2) (are_once (xs ++ a ∷ [])) taken in
    let once = both (are_once xs) (not (comes_again a xs)) (sym (once-more xs a) ∙ parts.1) in
    rw (fewer_files (length (files_in xs)) (length (files_in (a ∷ []))) (ap (λ n. nat_le n 2) (sym (files-more xs a)) ∙ parts.0)) once.0
  where
    fewer_files : (n m : ℕ) → nat_le (n + m) 2 ≡ true → nat_le n 2 ≡ true
    fewer_files n m le = grind (arith, le)

pub taken-prefix : (ys xs : List Argument) → are_taken (xs ++ ys) ≡ true → are_taken xs ≡ true
taken-prefix [] xs taken = ap are_taken (sym (append-nil xs)) ∙ taken
taken-prefix (y ∷ ys) xs taken = fewer xs y (taken-prefix ys (xs ++ y ∷ []) (ap are_taken (append_assoc xs (y ∷ []) ys) ∙ taken))

pub untaken-prefix : (xs ys : List Argument) → are_taken xs ≡ false → are_taken (xs ++ ys) ≡ false
untaken-prefix xs ys untaken = by (are_taken (xs ++ ys)) refl
  where
    by : (b : Bool) → are_taken (xs ++ ys) ≡ b → b ≡ false
    by true e = cc (taken-prefix ys xs e, untaken)
    by false e = refl
