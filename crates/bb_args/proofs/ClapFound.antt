-- What clap finds in words is what the definition of a command line finds in them.
use Rattle.std.proofs.Common.{◌≡◌, ◌∙◌, ℕ, Bool, true, false, List, [], ◌∷◌, ◌++◌, Option, None, Some, suc, ap, codes, drop, map, refl, sym, arith, subst}
use Rattle.std.specs.Prelude.{fold, if◌then◌else◌, is_some, not, slice_get}
use Rattle.std.specs.List.{before_first, after_first, list_all, list_any}
use Rattle.std.specs.Str.{bytes_eq}
use Rattle.clap.specs.Walk.{Row, Rule, first_of, has_row, is_empty, more_values, nothing_held, reading_by, walk_from, with_default}
use Rattle.clap.specs.declared.parser.matches.ValueSource.TheVariants.{DefaultValue}
use Rattle.bb_args.specs.CommandLines.{Argument, File, Flag, Found, Text, Valued, are_taken, arguments_of, after_dashes, files_in, flags, found_among, found_in, is_among, is_dashed, is_equals, is_flag, long, options, preceded, arguments_by, taken, option_value}
use Rattle.bb_args.specs.Inside.Commands.{AreSame, by_rows, is_taken, is_true, rows_in}
use Rattle.bb_args.proofs.ClapEnds.{all_of_them, total}
use Rattle.bb_args.proofs.ClapRows.{at_row-none, both, is_false, is_known, no_file, other_flag, other_option, rows_from, same_eq}
use Rattle.bb_args.proofs.ClapRules.{flag_rule, flags_no_options, imp_rule, option_rule, rules_are, shape, spec_rule}
use Rattle.bb_args.proofs.ClapStates.{Ends, Holds}
use Rattle.bb_args.proofs.ClapTurns.{no_kind, no_kind-empty}
use Rattle.bb_args.proofs.ClapWords.{AreTexts, reads}

-- the names that words say are those of flags and of options
abbrev AreKnown : Option (List Argument) → Type 0
AreKnown said = (more : List Argument) → said ≡ Some more → list_all is_known more ≡ true

known_preceded : (a : Argument) (said : Option (List Argument)) → is_known a ≡ true → AreKnown said → AreKnown (preceded a said)
known_preceded a None is known more e = cc e
known_preceded a (Some rest) is known more e =
    let same : a ∷ rest ≡ more = cc e in subst (λ l. list_all is_known l ≡ true) same (rw is (known rest refl))

known_files : (words : List Text) → list_all is_known (map File words) ≡ true
known_files [] = refl
known_files (word ∷ words) = known_files words

module _ (words : List Text) (others : Option Text → Option (List Argument)) (next : AreKnown (others None)) (value : (name : Text) → is_among options name ≡ true → AreKnown (others (Some name))) where
  known_long : (text : Text) (h o f p : Bool) → list_any is_equals text ≡ h → is_among options (before_first is_equals text) ≡ o → is_among flags text ≡ f → is_among options text ≡ p → AreKnown (long text others)
  known_long text true true f p a b c d = rw (a, b) (known_preceded (Valued (before_first is_equals text) (after_first is_equals text)) (others None) b next)
  known_long text true false f p a b c d = rw (a, b) (λ more e. cc e)
  known_long text false o true p a b c d = rw (a, c) (known_preceded (Flag text) (others None) c next)
  known_long text false o false true a b c d = rw (a, c, d) (value text d)
  known_long text false o false false a b c d = rw (a, c, d) (λ more e. cc e)

  known_by : (prefix : Option Text) (word : Text) (d : Bool) → is_dashed word ≡ d → AreKnown (arguments_by prefix word words others)
  known_by None word true is = rw is (λ more e. cc e)
  known_by None word false is = rw is (known_preceded (File word) (others None) refl next)
  known_by (Some []) word d is = λ more e. let same : map File words ≡ more = cc e in subst (λ l. list_all is_known l ≡ true) same (known_files words)
  known_by (Some (b ∷ bs)) word d is = known_long (b ∷ bs) _ _ _ _ refl refl refl refl

record Known (words : List Text) : Type 0 where
  pub next : AreKnown (arguments_of None words)
  pub value : (name : Text) → is_among options name ≡ true → AreKnown (arguments_of (Some name) words)

all_known : (words : List Text) → Known words
all_known [] = record { next = λ more e. let same : [] ≡ more = cc e in subst (λ l. list_all is_known l ≡ true) same refl; value = λ name is more e. cc e }
all_known (word ∷ words) =
    let more = all_known words in
    record {
      next = known_by words (λ waiting. arguments_of waiting words) more.next more.value (after_dashes word) word (is_dashed word) refl;
      value = λ name is. by name is (is_dashed word) refl more.next;
    }
  where
    by : (name : Text) → is_among options name ≡ true → (d : Bool) → is_dashed word ≡ d → AreKnown (arguments_of None words) → AreKnown (arguments_of (Some name) (word ∷ words))
    by name is true d next = rw d (λ more e. cc e)
    by name is false d next = rw d (known_preceded (Valued name word) (arguments_of None words) is next)

-- what is in the rows of arguments
in_spec : (xs : List Argument) → list_all is_known xs ≡ true → first_of (codes "SPEC") (rows_from 0 xs) ≡ slice_get (files_in xs) 0
in_spec [] known = refl
in_spec (File text ∷ xs) known = refl
in_spec (Flag m ∷ xs) known =
    let parts = both (is_among flags m) (list_all is_known xs) known in rw (same_eq m (codes "SPEC"), (other_flag m parts.0).spec) (in_spec xs parts.1)
in_spec (Valued m value ∷ xs) known =
    let parts = both (is_among options m) (list_all is_known xs) known in rw (same_eq m (codes "SPEC"), (other_option m parts.0).spec) (in_spec xs parts.1)

in_later : (xs : List Argument) → list_all is_known xs ≡ true → first_of (codes "IMPL") (rows_from 1 xs) ≡ slice_get (files_in xs) 0
in_later [] known = refl
in_later (File text ∷ xs) known = refl
in_later (Flag m ∷ xs) known =
    let parts = both (is_among flags m) (list_all is_known xs) known in rw (same_eq m (codes "IMPL"), (other_flag m parts.0).imp) (in_later xs parts.1)
in_later (Valued m value ∷ xs) known =
    let parts = both (is_among options m) (list_all is_known xs) known in rw (same_eq m (codes "IMPL"), (other_option m parts.0).imp) (in_later xs parts.1)

in_imp : (xs : List Argument) → list_all is_known xs ≡ true → first_of (codes "IMPL") (rows_from 0 xs) ≡ slice_get (files_in xs) 1
in_imp [] known = refl
in_imp (File text ∷ xs) known = in_later xs known
in_imp (Flag m ∷ xs) known =
    let parts = both (is_among flags m) (list_all is_known xs) known in rw (same_eq m (codes "IMPL"), (other_flag m parts.0).imp) (in_imp xs parts.1)
in_imp (Valued m value ∷ xs) known =
    let parts = both (is_among options m) (list_all is_known xs) known in rw (same_eq m (codes "IMPL"), (other_option m parts.0).imp) (in_imp xs parts.1)

in_value : (name : Text) → is_among options name ≡ true → (k : ℕ) (xs : List Argument) → list_all is_known xs ≡ true → first_of name (rows_from k xs) ≡ option_value name xs
in_value name is k [] known = refl
in_value name is k (File text ∷ xs) known = rw (no_file k name (other_option name is)) (in_value name is (suc k) xs known)
in_value name is k (Flag m ∷ xs) known =
    let parts = both (is_among flags m) (list_all is_known xs) known in rw (flags_no_options m name parts.0 is) (in_value name is k xs parts.1)
in_value name is k (Valued m value ∷ xs) known = by (bytes_eq m name) refl (in_value name is k xs (both (is_among options m) (list_all is_known xs) known).1)
  where
    by : (b : Bool) → bytes_eq m name ≡ b → first_of name (rows_from k xs) ≡ option_value name xs → first_of name (rows_from k (Valued m value ∷ xs)) ≡ option_value name (Valued m value ∷ xs)
    by true e more = rw e refl
    by false e more = rw e more

in_flag : (name : Text) → is_among flags name ≡ true → (k : ℕ) (xs : List Argument) → list_all is_known xs ≡ true → is_true (first_of name (rows_from k xs)) ≡ list_any (is_flag name) xs
in_flag name is k [] known = refl
in_flag name is k (File text ∷ xs) known = rw (no_file k name (other_flag name is)) (in_flag name is (suc k) xs known)
in_flag name is k (Valued m value ∷ xs) known =
    let parts = both (is_among options m) (list_all is_known xs) known in rw (same_eq m name, flags_no_options name m is parts.0) (in_flag name is k xs parts.1)
in_flag name is k (Flag m ∷ xs) known = by (bytes_eq m name) refl (in_flag name is k xs (both (is_among flags m) (list_all is_known xs) known).1)
  where
    by : (b : Bool) → bytes_eq m name ≡ b → is_true (first_of name (rows_from k xs)) ≡ list_any (is_flag name) xs → is_true (first_of name (rows_from k (Flag m ∷ xs))) ≡ list_any (is_flag name) (Flag m ∷ xs)
    by true e more = rw e refl
    by false e more = rw e more

-- the rows of flags that are not given change nothing of what is found
abbrev Keeps : {X : Type 0} → (List Row → X) → Rule → Type 0
Keeps seen a = (rows : List Row) → seen (with_default rows a) ≡ seen rows

keeps_over : {X : Type 0} (seen : List Row → X) (a : Rule) (rest : List Rule) → Keeps seen a → ((rows : List Row) → seen (fold with_default rows rest) ≡ seen rows) → (rows : List Row) → seen (fold with_default rows (a ∷ rest)) ≡ seen rows
keeps_over seen a rest here more rows = more (with_default rows a) ∙ here rows

keeps_named : {X : Type 0} (seen : List Row → X) (f : Text → Rule) → ((name : Text) → Keeps seen (f name)) → (ns : List Text) (rest : List Rule) → ((rows : List Row) → seen (fold with_default rows rest) ≡ seen rows)
    → (rows : List Row) → seen (fold with_default rows (map f ns ++ rest)) ≡ seen rows
keeps_named seen f each [] rest more = more
keeps_named seen f each (n ∷ ns) rest more = keeps_over seen (f n) (map f ns ++ rest) (each n) (keeps_named seen f each ns rest more)

no_default : {X : Type 0} (seen : List Row → X) (a : Rule) → a.defaults ≡ [] → Keeps seen a
no_default seen a none rows = by (has_row a.id rows) refl
  where
    by : (b : Bool) → has_row a.id rows ≡ b → seen (with_default rows a) ≡ seen rows
    by true e = rw e refl
    by false e = rw (e, none) refl

abbrev default_row : Text → Row
default_row name = record { id = name; values = codes "false" ∷ []; count = None; source = Some DefaultValue; reading = reading_by (flag_rule name) }

with_flag : {X : Type 0} (seen : List Row → X) (name : Text) → ((rows : List Row) → seen (rows ++ default_row name ∷ []) ≡ seen rows) → Keeps seen (flag_rule name)
with_flag seen name same rows = by (has_row name rows) refl
  where
    by : (b : Bool) → has_row name rows ≡ b → seen (with_default rows (flag_rule name)) ≡ seen rows
    by true e = rw e refl
    by false e = rw e (ap seen (at_row-none name (more_values DefaultValue (codes "false" ∷ [])) (default_row name ∷ []) rows e) ∙ same rows)

-- one row more at the end
other_last : (name other : Text) → bytes_eq other name ≡ false → (rows : List Row) → first_of name (rows ++ default_row other ∷ []) ≡ first_of name rows
other_last name other apart_from [] = rw apart_from refl
other_last name other apart_from (r ∷ rows) = by (bytes_eq r.id name) refl (other_last name other apart_from rows)
  where
    by : (b : Bool) → bytes_eq r.id name ≡ b → first_of name (rows ++ default_row other ∷ []) ≡ first_of name rows → first_of name ((r ∷ rows) ++ default_row other ∷ []) ≡ first_of name (r ∷ rows)
    by true e more = rw e refl
    by false e more = rw e more

flag_last : (name other : Text) (rows : List Row) → is_true (first_of name (rows ++ default_row other ∷ [])) ≡ is_true (first_of name rows)
flag_last name other [] = by (bytes_eq other name) refl
  where
    by : (b : Bool) → bytes_eq other name ≡ b → is_true (first_of name (default_row other ∷ [])) ≡ false
    by true e = rw e refl
    by false e = rw e refl
flag_last name other (r ∷ rows) = by (bytes_eq r.id name) refl (flag_last name other rows)
  where
    by : (b : Bool) → bytes_eq r.id name ≡ b → is_true (first_of name (rows ++ default_row other ∷ [])) ≡ is_true (first_of name rows) → is_true (first_of name ((r ∷ rows) ++ default_row other ∷ [])) ≡ is_true (first_of name (r ∷ rows))
    by true e more = rw e refl
    by false e more = rw e more

-- the rules after those of the flags, of the second file and of the first
abbrev after_flags : List Rule
after_flags = map option_rule options ++ []

abbrev after_imp : List Rule
after_imp = map flag_rule flags ++ after_flags

abbrev after_spec : List Rule
after_spec = imp_rule ∷ after_imp

keeps_all : {X : Type 0} (seen : List Row → X) → ((name : Text) → Keeps seen (flag_rule name)) → (rows : List Row) → seen (fold with_default rows shape.rules) ≡ seen rows
keeps_all seen each rows =
    ap (λ rs. seen (fold with_default rows rs)) rules_are
    ∙ keeps_over seen spec_rule after_spec (no_default seen spec_rule refl)
    (keeps_over seen imp_rule after_imp (no_default seen imp_rule refl)
    (keeps_named seen flag_rule each flags after_flags (keeps_named seen option_rule (λ name. no_default seen (option_rule name) refl) options [] (λ rs. refl)))) rows

keeps_all_flags : (name : Text) → list_all (λ flag. not (bytes_eq flag name)) flags ≡ true → (rows : List Row) → first_of name (fold with_default rows shape.rules) ≡ first_of name rows
keeps_all_flags name differ rows =
    ap (λ rs. first_of name (fold with_default rows rs)) rules_are
    ∙ keeps_over (first_of name) spec_rule after_spec (no_default (first_of name) spec_rule refl)
    (keeps_over (first_of name) imp_rule after_imp (no_default (first_of name) imp_rule refl)
    (each flags differ after_flags (keeps_named (first_of name) option_rule (λ n. no_default (first_of name) (option_rule n) refl) options [] (λ rs. refl)))) rows
  where
    each : (ns : List Text) → list_all (λ flag. not (bytes_eq flag name)) ns ≡ true → (rest : List Rule) → ((rs : List Row) → first_of name (fold with_default rs rest) ≡ first_of name rs)
        → (rs : List Row) → first_of name (fold with_default rs (map flag_rule ns ++ rest)) ≡ first_of name rs
    each [] all rest more = more
    each (n ∷ ns) all rest more =
        let parts = both (not (bytes_eq n name)) (list_all (λ flag. not (bytes_eq flag name)) ns) all in
        keeps_over (first_of name) (flag_rule n) (map flag_rule ns ++ rest) (with_flag (first_of name) n (other_last name n (is_false (bytes_eq n name) parts.0))) (each ns parts.1 rest more)

no_flags : (name : Text) → is_among options name ≡ true → (ns : List Text) → list_all (λ flag. is_among flags flag) ns ≡ true → list_all (λ flag. not (bytes_eq flag name)) ns ≡ true
no_flags name is [] all = refl
no_flags name is (n ∷ ns) all =
    let parts = both (is_among flags n) (list_all (λ flag. is_among flags flag) ns) all in rw (flags_no_options n name parts.0 is) (no_flags name is ns parts.1)

same_found : (more : List Argument) → list_all is_known more ≡ true → (rows : List Row) → rows ≡ fold with_default (rows_from 0 more) shape.rules → AreSame (by_rows rows) (found_among more)
same_found more known rows are = record {
  spec = ap (first_of (codes "SPEC")) are ∙ keeps_all_flags (codes "SPEC") refl (rows_from 0 more) ∙ in_spec more known;
  imp = ap (first_of (codes "IMPL")) are ∙ keeps_all_flags (codes "IMPL") refl (rows_from 0 more) ∙ in_imp more known;
  has_flag = λ name is. ap (λ rs. is_true (first_of name rs)) are
      ∙ keeps_all (λ rs. is_true (first_of name rs)) (λ flag. with_flag (λ rs. is_true (first_of name rs)) flag (flag_last name flag)) (rows_from 0 more)
      ∙ in_flag name is 0 more known;
  value = λ name is. ap (first_of name) are ∙ keeps_all_flags name (no_flags name is flags refl) (rows_from 0 more) ∙ in_value name is 0 more known;
}

chosen : {X : Type 0} (t : Bool) (x y : X) → (if t then Some x else None) ≡ Some y → (t ≡ true) × (x ≡ y)
chosen true x y e = (refl, cc e)
chosen false x y e = cc e

-- nothing is held before the first word
at_first : Holds [] nothing_held
at_first = record { skip = refl; few = omega arith; known = refl; passes = refl; rows = λ taken. refl }

-- for words that are texts
pub record Agrees (words : List Text) : Type 0 where
  pub taken : is_taken words ≡ is_some (found_in words)
  pub found : (found : Found) → found_in words ≡ Some found → AreSame (by_rows (rows_in words)) found

pub clap_agrees : (words : List Text) → AreTexts (drop 1 words) → Agrees words
clap_agrees words texts = by (arguments_of None (drop 1 words)) refl ((reads (drop 1 words) texts).next [] nothing_held at_first)
  where
    passes : is_taken words ≡ no_kind (total (walk_from nothing_held) (drop 1 words))
    passes = ap is_empty (all_of_them words) ∙ no_kind-empty (total (walk_from nothing_held) (drop 1 words))

    decided : (found : Found) (t : Bool) → t ≡ is_some (if t then Some found else None)
    decided found true = refl
    decided found false = refl

    by : (said : Option (List Argument)) → arguments_of None (drop 1 words) ≡ said → Ends [] (arguments_of None (drop 1 words)) (walk_from nothing_held) (drop 1 words) → Agrees words
    by None e is = record { taken = passes ∙ is.passes ∙ rw e refl; found = λ found none. cc (sym (ap taken e) ∙ none) }
    by (Some more) e is = record {
      taken = passes ∙ is.passes ∙ rw e (decided (found_among more) (are_taken more));
      found = λ found some.
          let is_so = chosen (are_taken more) (found_among more) found (sym (ap taken e) ∙ some) in
          subst (λ f. AreSame (by_rows (rows_in words)) f) is_so.1
          (same_found more ((all_known (drop 1 words)).next more e) (rows_in words) (ap (λ rs. fold with_default rs shape.rules) (is.rows more e is_so.0)));
    }
