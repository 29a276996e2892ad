-- What words ask for that are files, options and flags after the program's own name, by the definition of a command line alone.
use Rattle.std.proofs.Common.{◌≡◌, ◌≢◌, ◌==◌, ◌∙◌, ℕ, Bool, true, false, All, List, [], ◌∷◌, ◌++◌, Option, None, Some, ap, codes, get_or, if◌then◌else◌, refl, sym, arith, zero, suc}
use Rattle.std.specs.Prelude.{Contains, ◌&&◌, length, nat_le, not, option_and_then, option_map}
use Rattle.std.specs.Char.{is_ascii_digit, is_ascii_graphic}
use Rattle.std.specs.List.{list_all, list_any}
use Rattle.std.specs.Str.{bytes_eq}
use Rattle.std.specs.Str.Parse.{digits_value}
use Rattle.std.proofs.lemmas.List.Elements.{All-from_recursion, Contains-append_left, Contains-append_right}
use lib.Pointwise.{bytes_decides}
use Rattle.bb_args.specs.Requests.{RequestNothing, Request, requested, comparison_by, made_pair_by, refutation_by, if_given, requested_made_pair, name, requested_refutation, one_at_most}
use Rattle.bb_args.specs.CommandLines.{Argument, File, Flag, Text, Valued, arguments_of, after_dashes, flags, is_among, is_dashed, is_equals, options, preceded, taken}
use Rattle.bb_args.specs.Laws.{AllAreFilesAfter, RequestTheSame, CareNamesAreRequested, InvariantNamesAreRequested, FewWordsRequestNothing, FillIsRequested, PlainWordsAreFiles, SomeWordsAreRefused, ValuesMayBeJoined, WidthsRequestPairs, files_alone, is_plain, pair_alone}
use Rattle.bb_args.specs.Numbers.{is_number, number_within}
use Rattle.bb_args.proofs.WithinLemmas.{both, if-some}

no_minus : (b : Bool) → not b ≡ true → b ≡ false
no_minus false e = refl
no_minus true e = cc

plain_prefix : (x : ℕ) (xs : Text) → (x == 45) ≡ false → after_dashes (x ∷ xs) ≡ None
plain_prefix x [] e = refl
plain_prefix x (y ∷ ys) e = rw e refl

plain_word : (x : ℕ) (xs : Text) → (x == 45) ≡ false → is_dashed (x ∷ xs) ≡ false
plain_word x [] e = refl
plain_word x (y ∷ ys) e = e

-- a plain word is a file, or the value of the option that waits
a_file : (word : Text) (words : List Text) → is_plain word ≡ true → arguments_of None (word ∷ words) ≡ preceded (File word) (arguments_of None words)
a_file [] words plain = cc plain
a_file (x ∷ xs) words plain = rw (plain_prefix x xs (no_minus (x == 45) plain), plain_word x xs (no_minus (x == 45) plain)) refl

a_value : (option word : Text) (words : List Text) → is_plain word ≡ true → arguments_of (Some option) (word ∷ words) ≡ preceded (Valued option word) (arguments_of None words)
a_value option [] words plain = cc plain
a_value option (x ∷ xs) words plain = rw (plain_word x xs (no_minus (x == 45) plain)) refl

-- what is asked by what words say
record Requests (words : List Text) (said : Option (List Argument)) : Type 0 where
  pub files : requested words ≡ option_and_then comparison_by (taken said)
  pub made : requested_made_pair words ≡ option_and_then made_pair_by (taken said)
  pub refutation : requested_refutation words ≡ option_and_then refutation_by (taken said)

requests : (program : Text) (words : List Text) (said : Option (List Argument)) → arguments_of None words ≡ said → Requests (program ∷ words) said
requests program words said is = record {
  files = ap (λ s. option_and_then comparison_by (taken s)) is;
  made = ap (λ s. option_and_then made_pair_by (taken s)) is;
  refutation = ap (λ s. option_and_then refutation_by (taken s)) is;
}

nothing : (words : List Text) (said : Option (List Argument)) → Requests words said → taken said ≡ None → RequestNothing words
nothing words said is none = record {
  comparison = is.files ∙ ap (option_and_then comparison_by) none;
  made = is.made ∙ ap (option_and_then made_pair_by) none;
  refutation = is.refutation ∙ ap (option_and_then refutation_by) none;
}

alike : (words others : List Text) (said : Option (List Argument)) → Requests words said → Requests others said → RequestTheSame words others
alike words others said a b = record { files = a.files ∙ sym b.files; made = a.made ∙ sym b.made; refutation = a.refutation ∙ sym b.refutation }

-- two files, and what follows them
module _ (spec imp : Text) (plain_spec : is_plain spec ≡ true) (plain_imp : is_plain imp ≡ true) (words : List Text) (rest : Option (List Argument)) (is : arguments_of None words ≡ rest) where
  files_and : arguments_of None (spec ∷ imp ∷ words) ≡ preceded (File spec) (preceded (File imp) rest)
  files_and = a_file spec (imp ∷ words) plain_spec ∙ ap (preceded (File spec)) (a_file imp words plain_imp ∙ ap (preceded (File imp)) is)

pub plain_words : PlainWordsAreFiles
plain_words program [] imp plain_spec plain_imp = cc plain_spec
plain_words program (x ∷ xs) [] plain_spec plain_imp = cc plain_imp
plain_words program (x ∷ xs) (y ∷ ys) plain_spec plain_imp = (requests program ((x ∷ xs) ∷ (y ∷ ys) ∷ []) (Some (File (x ∷ xs) ∷ File (y ∷ ys) ∷ [])) (files_and (x ∷ xs) (y ∷ ys) plain_spec plain_imp [] (Some []) refl)).files

pub few_words : FewWordsRequestNothing
few_words = (record { comparison = refl; made = refl; refutation = refl }, (λ program. record { comparison = refl; made = refl; refutation = refl }), one)
  where
    one : (program spec : List ℕ) → is_plain spec ≡ true → RequestNothing (program ∷ spec ∷ [])
    one program [] plain = cc plain
    one program (x ∷ xs) plain =
        let is = requests program ((x ∷ xs) ∷ []) (Some (File (x ∷ xs) ∷ [])) (a_file (x ∷ xs) [] plain) in
        record { comparison = is.files; made = is.made; refutation = is.refutation }

pub fill_is_requested : FillIsRequested
fill_is_requested program [] imp plain_spec plain_imp = cc plain_spec
fill_is_requested program (x ∷ xs) [] plain_spec plain_imp = cc plain_imp
fill_is_requested program (x ∷ xs) (y ∷ ys) plain_spec plain_imp =
    (requests program ((x ∷ xs) ∷ (y ∷ ys) ∷ codes "--fill" ∷ []) (Some (File (x ∷ xs) ∷ File (y ∷ ys) ∷ Flag (codes "fill") ∷ []))
    (files_and (x ∷ xs) (y ∷ ys) plain_spec plain_imp (codes "--fill" ∷ []) (Some (Flag (codes "fill") ∷ [])) refl)).files

pub files_after : AllAreFilesAfter
files_after program [] imp some also = absurd (some refl)
files_after program (s ∷ spec) [] some also = absurd (also refl)
files_after program (s ∷ spec) (i ∷ imp) some also = refl

pub care_names : CareNamesAreRequested
care_names program [] imp text plain_spec plain_imp plain_text = cc plain_spec
care_names program (x ∷ xs) [] text plain_spec plain_imp plain_text = cc plain_imp
care_names program (x ∷ xs) (y ∷ ys) [] plain_spec plain_imp plain_text = cc plain_text
care_names program (x ∷ xs) (y ∷ ys) (v ∷ value) plain_spec plain_imp plain_text =
    (requests program ((x ∷ xs) ∷ (y ∷ ys) ∷ codes "--care" ∷ (v ∷ value) ∷ []) (Some (File (x ∷ xs) ∷ File (y ∷ ys) ∷ Valued (codes "care") (v ∷ value) ∷ []))
    (files_and (x ∷ xs) (y ∷ ys) plain_spec plain_imp (codes "--care" ∷ (v ∷ value) ∷ []) (Some (Valued (codes "care") (v ∷ value) ∷ [])) (a_value (codes "care") (v ∷ value) [] plain_text))).files
    ∙ decided (list_all is_ascii_graphic (v ∷ value))
  where
    constrained : Request
    constrained = record (files_alone (x ∷ xs) (y ∷ ys)) { care = Some (v ∷ value) }

    decided : (graphic : Bool) → if_given (option_map (λ text. Some text) (if graphic then name (v ∷ value) else None)) (λ care. if one_at_most care None then Some (record (files_alone (x ∷ xs) (y ∷ ys)) { care = care }) else None) ≡ (if graphic then Some constrained else None)
    decided true = refl
    decided false = refl

pub invariant_names : InvariantNamesAreRequested
invariant_names program [] imp text plain_spec plain_imp plain_text = cc plain_spec
invariant_names program (x ∷ xs) [] text plain_spec plain_imp plain_text = cc plain_imp
invariant_names program (x ∷ xs) (y ∷ ys) [] plain_spec plain_imp plain_text = cc plain_text
invariant_names program (x ∷ xs) (y ∷ ys) (v ∷ value) plain_spec plain_imp plain_text =
    (requests program ((x ∷ xs) ∷ (y ∷ ys) ∷ codes "--invariant" ∷ (v ∷ value) ∷ []) (Some (File (x ∷ xs) ∷ File (y ∷ ys) ∷ Valued (codes "invariant") (v ∷ value) ∷ []))
    (files_and (x ∷ xs) (y ∷ ys) plain_spec plain_imp (codes "--invariant" ∷ (v ∷ value) ∷ []) (Some (Valued (codes "invariant") (v ∷ value) ∷ [])) (a_value (codes "invariant") (v ∷ value) [] plain_text))).files
    ∙ decided (list_all is_ascii_graphic (v ∷ value))
  where
    kept : Request
    kept = record (files_alone (x ∷ xs) (y ∷ ys)) { invariant = Some (v ∷ value) }

    decided : (graphic : Bool) → if_given (option_map (λ text. Some text) (if graphic then name (v ∷ value) else None)) (λ invariant. Some (record (files_alone (x ∷ xs) (y ∷ ys)) { invariant = invariant })) ≡ (if graphic then Some kept else None)
    decided true = refl
    decided false = refl

-- an option and its value, as two words and as one
record IsValued (value option : Text) : Type 0 where
  pub apart : arguments_of None ((codes "--" ++ option) ∷ value ∷ []) ≡ Some (Valued option value ∷ [])
  pub joined : arguments_of None ((codes "--" ++ option ++ codes "=" ++ value) ∷ []) ≡ Some (Valued option value ∷ [])
  pub twice : (other : Text) → is_plain other ≡ true → arguments_of None ((codes "--" ++ option) ∷ value ∷ (codes "--" ++ option) ∷ other ∷ []) ≡ Some (Valued option value ∷ Valued option other ∷ [])
  pub again : bytes_eq option option ≡ true

is_valued : (value option : Text) → is_plain value ≡ true → ((words : List Text) → arguments_of None ((codes "--" ++ option) ∷ words) ≡ arguments_of (Some option) words)
    → arguments_of None ((codes "--" ++ option ++ codes "=" ++ value) ∷ []) ≡ Some (Valued option value ∷ []) → IsValued value option
is_valued value option plain waits joined = record {
  apart = waits (value ∷ []) ∙ a_value option value [] plain;
  joined = joined;
  twice = λ other also. waits (value ∷ (codes "--" ++ option) ∷ other ∷ []) ∙ a_value option value ((codes "--" ++ option) ∷ other ∷ []) plain
      ∙ ap (preceded (Valued option value)) (waits (other ∷ []) ∙ a_value option other [] also);
  again = (bytes_decides option option).1 refl;
}

valued_options : (value : Text) → is_plain value ≡ true → All (IsValued value) options
valued_options value plain = All-from_recursion (IsValued value) options (
  is_valued value (codes "top-spec") plain (λ words. refl) refl,
  (
    is_valued value (codes "top-impl") plain (λ words. refl) refl,
    (
      is_valued value (codes "from") plain (λ words. refl) refl,
      (
        is_valued value (codes "to") plain (λ words. refl) refl,
        (
          is_valued value (codes "patterns") plain (λ words. refl) refl,
          (
            is_valued value (codes "seed") plain (λ words. refl) refl,
            (
              is_valued value (codes "nodes") plain (λ words. refl) refl,
              (
                is_valued value (codes "clauses") plain (λ words. refl) refl,
                (
                  is_valued value (codes "cache") plain (λ words. refl) refl,
                  (
                    is_valued value (codes "care") plain (λ words. refl) refl,
                    (
                      is_valued value (codes "invariant") plain (λ words. refl) refl,
                      (is_valued value (codes "make") plain (λ words. refl) refl, tt),
                    ),
                  ),
                ),
              ),
            ),
          ),
        ),
      ),
    ),
  ),
)

pub joined_values : ValuesMayBeJoined
joined_values program spec imp value plain_spec plain_imp plain_value = λ k d within.
    let is = valued_options value plain_value k d within in
    let said = preceded (File spec) (preceded (File imp) (Some (Valued (get_or options k d) value ∷ []))) in
    alike _ _ said (requests program _ said (files_and spec imp plain_spec plain_imp _ (Some (Valued (get_or options k d) value ∷ [])) is.apart))
    (requests program _ said (files_and spec imp plain_spec plain_imp _ (Some (Valued (get_or options k d) value ∷ [])) is.joined))

-- a number does not begin with a minus sign
digit_first : (x : ℕ) (xs : List ℕ) (n : ℕ) → number_within 1 256 (x ∷ xs) ≡ Some n → (x == 45) ≡ false
digit_first x xs n e = by (x == 45) refl
  where
    value : ℕ
    value = digits_value 10 (x ∷ xs)

    number : is_number (x ∷ xs) ≡ true
    number = (both (is_number (x ∷ xs)) (nat_le 1 value && nat_le value 256) (if-some (is_number (x ∷ xs) && (nat_le 1 value && nat_le value 256)) value n e).0).0

    digits : list_all is_ascii_digit (x ∷ xs) ≡ true
    digits = (both (nat_le 1 (length (x ∷ xs)) && nat_le (length (x ∷ xs)) 20) (list_all is_ascii_digit (x ∷ xs)) number).1

    digit : is_ascii_digit x ≡ true
    digit = (both (is_ascii_digit x) (list_all is_ascii_digit xs) digits).0

    by : (b : Bool) → (x == 45) ≡ b → b ≡ false
    by false h = refl
    by true h = let is : x ≡ 45 = grind (arith, h) in sym digit ∙ ap is_ascii_digit is

pub widths : WidthsRequestPairs
widths program [] n e = cc
widths program (x ∷ xs) n e =
    let plain : is_plain (x ∷ xs) ≡ true = ap not (digit_first x xs n e) in
    let one : option_and_then made_pair_by (taken (Some (Valued (codes "make") (x ∷ xs) ∷ []))) ≡ Some (pair_alone n) = ap (λ o. option_map (λ k. pair_alone k) o) e in (
      (requests program (codes "--make" ∷ (x ∷ xs) ∷ []) (Some (Valued (codes "make") (x ∷ xs) ∷ [])) (a_value (codes "make") (x ∷ xs) [] plain)).made ∙ one,
      (requests program ((codes "--make=" ++ (x ∷ xs)) ∷ []) (Some (Valued (codes "make") (x ∷ xs) ∷ [])) refl).made ∙ one,
    )

-- a flag, alone, twice and with a value
record IsFlag (flag : Text) : Type 0 where
  pub twice : arguments_of None ((codes "--" ++ flag) ∷ (codes "--" ++ flag) ∷ []) ≡ Some (Flag flag ∷ Flag flag ∷ [])
  pub valued : (value : Text) → arguments_of None ((codes "--" ++ flag ++ codes "=" ++ value) ∷ []) ≡ None
  pub again : bytes_eq flag flag ≡ true

is_flag : (flag : Text) → arguments_of None ((codes "--" ++ flag) ∷ (codes "--" ++ flag) ∷ []) ≡ Some (Flag flag ∷ Flag flag ∷ [])
    → ((value : Text) → arguments_of None ((codes "--" ++ flag ++ codes "=" ++ value) ∷ []) ≡ None) → IsFlag flag
is_flag flag twice valued = record { twice = twice; valued = valued; again = (bytes_decides flag flag).1 refl }

all_flags : All IsFlag flags
all_flags = All-from_recursion IsFlag flags (
  is_flag (codes "all") refl (λ value. refl),
  (
    is_flag (codes "proof") refl (λ value. refl),
    (
      is_flag (codes "rup") refl (λ value. refl),
      (
        is_flag (codes "shared") refl (λ value. refl),
        (is_flag (codes "fill") refl (λ value. refl), tt),
      ),
    ),
  ),
)

none_among : (name : Text) (names : List Text) → (Contains names name → ⊥) → is_among names name ≡ false
none_among name [] none = refl
none_among name (n ∷ names) none = by (bytes_eq n name) refl (none_among name names (λ has. none (suc has.0, omega (arith, has.1), has.2)))
  where
    by : (b : Bool) → bytes_eq n name ≡ b → is_among names name ≡ false → is_among (n ∷ names) name ≡ false
    by true e more = absurd (none (zero, omega arith, (bytes_decides n name).0 e))
    by false e more = rw e more

no_equals : (name : Text) → All (λ b. b ≢ 61) name → list_any is_equals name ≡ false
no_equals [] none = refl
no_equals (b ∷ bs) none = by (is_equals b) refl (no_equals bs (λ k d within. none (suc k) d (omega (arith, within))))
  where
    by : (e : Bool) → is_equals b ≡ e → list_any is_equals bs ≡ false → list_any is_equals (b ∷ bs) ≡ false
    by true e more = absurd (let is : b ≡ 61 = grind (arith, e) in none 0 0 (omega arith) is)
    by false e more = rw e more

-- words after two files that are refused
module _ (program spec imp : Text) (plain_spec : is_plain spec ≡ true) (plain_imp : is_plain imp ≡ true) where
  third : (word : Text) → is_plain word ≡ true → RequestNothing (program ∷ spec ∷ imp ∷ word ∷ [])
  third word plain =
      let said = Some (File spec ∷ File imp ∷ File word ∷ []) in
      nothing (program ∷ spec ∷ imp ∷ word ∷ []) said (requests program (spec ∷ imp ∷ word ∷ []) said (files_and spec imp plain_spec plain_imp (word ∷ []) (Some (File word ∷ [])) (a_file word [] plain))) refl

  option_again : (value other option : Text) → is_plain other ≡ true → IsValued value option → RequestNothing (program ∷ spec ∷ imp ∷ (codes "--" ++ option) ∷ value ∷ (codes "--" ++ option) ∷ other ∷ [])
  option_again value other option plain is =
      let words = (codes "--" ++ option) ∷ value ∷ (codes "--" ++ option) ∷ other ∷ [] in
      let rest = Valued option value ∷ Valued option other ∷ [] in
      let said = Some (File spec ∷ File imp ∷ rest) in
      nothing (program ∷ spec ∷ imp ∷ words) said (requests program (spec ∷ imp ∷ words) said (files_and spec imp plain_spec plain_imp words (Some rest) (is.twice other plain))) (rw is.again refl)

  flag_again : (flag : Text) → IsFlag flag → RequestNothing (program ∷ spec ∷ imp ∷ (codes "--" ++ flag) ∷ (codes "--" ++ flag) ∷ [])
  flag_again flag is =
      let words = (codes "--" ++ flag) ∷ (codes "--" ++ flag) ∷ [] in
      let rest = Flag flag ∷ Flag flag ∷ [] in
      let said = Some (File spec ∷ File imp ∷ rest) in
      nothing (program ∷ spec ∷ imp ∷ words) said (requests program (spec ∷ imp ∷ words) said (files_and spec imp plain_spec plain_imp words (Some rest) is.twice)) (rw is.again refl)

  flag_with : (value flag : Text) → IsFlag flag → RequestNothing (program ∷ spec ∷ imp ∷ (codes "--" ++ flag ++ codes "=" ++ value) ∷ [])
  flag_with value flag is =
      let words = (codes "--" ++ flag ++ codes "=" ++ value) ∷ [] in
      nothing (program ∷ spec ∷ imp ∷ words) None (requests program (spec ∷ imp ∷ words) None (files_and spec imp plain_spec plain_imp words None (is.valued value))) refl

  unknown : (name : Text) → name ≢ [] → All (λ b. b ≢ 61) name → (Contains (flags ++ options) name → ⊥) → RequestNothing (program ∷ spec ∷ imp ∷ (codes "--" ++ name) ∷ [])
  unknown [] some lack none = absurd (some refl)
  unknown (b ∷ bs) some lack none =
      let words = (codes "--" ++ b ∷ bs) ∷ [] in
      let is : arguments_of None words ≡ None = rw (no_equals (b ∷ bs) lack, none_among (b ∷ bs) flags (λ has. none (prefix has)), none_among (b ∷ bs) options (λ has. none (after has))) refl in
      nothing (program ∷ spec ∷ imp ∷ words) None (requests program (spec ∷ imp ∷ words) None (files_and spec imp plain_spec plain_imp words None is)) refl
    where
      prefix : Contains flags (b ∷ bs) → Contains (flags ++ options) (b ∷ bs)
      prefix = Contains-append_left flags options (b ∷ bs)

      after : Contains options (b ∷ bs) → Contains (flags ++ options) (b ∷ bs)
      after = Contains-append_right flags options (b ∷ bs)

pub refused_words : SomeWordsAreRefused
refused_words program spec imp plain_spec plain_imp = record {
  third = third program spec imp plain_spec plain_imp;
  option_twice = λ value other plain also k d within. option_again program spec imp plain_spec plain_imp value other (get_or options k d) also (valued_options value plain k d within);
  flag_twice = λ k d within. flag_again program spec imp plain_spec plain_imp (get_or flags k d) (all_flags k d within);
  flag_value = λ value k d within. flag_with program spec imp plain_spec plain_imp value (get_or flags k d) (all_flags k d within);
  unknown = unknown program spec imp plain_spec plain_imp;
}
