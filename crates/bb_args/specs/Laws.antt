-- Laws of requests.
use Rattle.std.specs.Prelude.{◌≡◌, ◌≢◌, ◌≤◌, ◌==◌, ℕ, Bool, true, false, not, List, [], ◌∷◌, ◌++◌, ◌⊎◌, All, Contains}
use Rattle.std.specs.Prelude.{IfSome, None, Some, if◌then◌else◌, codes}
use Rattle.std.specs.Char.{is_ascii_graphic}
use Rattle.std.specs.List.{list_all}
use Rattle.bb_options.specs.declared.rung.Rung.TheVariants.{Ternary, Expand}
use Rattle.bb_options.specs.Rungs.{AreBounds}
use Rattle.bb_options.specs.declared.options.Options.{Options}
use Rattle.bb_args.specs.Requests.{RequestNothing, MadePair, Refutation, Request, requested, is_making, is_refuting, requested_made_pair}
use Rattle.bb_args.specs.Requests.{requested_refutation}
use Rattle.bb_args.specs.CommandLines.{Argument, Found, are_taken, file_in, flags, found_among, found_in, options}
use Rattle.bb_args.specs.Numbers.{number_within}

-- each name that has to be given is not empty, a care output or an invariant has a name that can be printed, and both
-- are not given, each number is within its bounds, and so is the order of the checks
pub record IsWithin (r : Request) : Type 0 where
  pub spec : r.spec ≢ []
  pub imp : r.imp ≢ []
  pub care : IfSome r.care (λ text. (text ≢ []) × All (λ b. (33 ≤ b) × (b ≤ 126)) text)
  pub invariant : IfSome r.invariant (λ text. (text ≢ []) × All (λ b. (33 ≤ b) × (b ≤ 126)) text)
  pub one : (r.care ≡ None) ⊎ (r.invariant ≡ None)
  pub bounds : AreBounds r.options

-- the width is within its bounds, and so are the checks; boxes share nothing, since there is one
pub record IsMadeWithin (m : MadePair) : Type 0 where
  pub least : 1 ≤ m.n
  pub most : m.n ≤ 256
  pub bounds : AreBounds m.options
  pub apart : m.options.shared ≡ false

-- every request is within the table of the options
abbrev pub RequestsAreWithin : Type 0
RequestsAreWithin = (words : List (List ℕ)) (r : Request) → requested words ≡ Some r → IsWithin r

abbrev pub MadePairsAreWithin : Type 0
MadePairsAreWithin = (words : List (List ℕ)) (m : MadePair) → requested_made_pair words ≡ Some m → IsMadeWithin m

-- a word that is not empty and does not begin with a minus sign
abbrev pub is_plain : List ℕ → Bool
is_plain [] = false
is_plain (b ∷ bs) = not (b == 45)

-- the defaults of the options
abbrev pub options_alone : Options
options_alone = record { from = Ternary; to = Expand; all = false; patterns = 32; seed = 1; nodes = 1000000; cache = 65536; clauses = 2000000; proof = false; shared = false }

-- two files, and all else by default
abbrev pub files_alone : List ℕ → List ℕ → Request
files_alone spec imp = record { spec = spec; imp = imp; top_spec = None; top_imp = None; care = None; invariant = None; fill = false; options = options_alone }

-- a made pair, and all else by default
abbrev pub pair_alone : ℕ → MadePair
pair_alone n = record { n = n; fill = false; options = options_alone }

-- two plain words after the program's name are two files, and request nothing else
abbrev pub PlainWordsAreFiles : Type 0
PlainWordsAreFiles = (program spec imp : List ℕ) → is_plain spec ≡ true → is_plain imp ≡ true
    → requested (program ∷ spec ∷ imp ∷ []) ≡ Some (files_alone spec imp)

-- `--make` with a number from 1 to 256 requests the made pair of this width, and nothing else
abbrev pub WidthsRequestPairs : Type 0
WidthsRequestPairs = (program width : List ℕ) (n : ℕ) → number_within 1 256 width ≡ Some n
    → (requested_made_pair (program ∷ codes "--make" ∷ width ∷ []) ≡ Some (pair_alone n)) × (requested_made_pair (program ∷ (codes "--make=" ++ width) ∷ []) ≡ Some (pair_alone n))

-- these words make the same request
pub record RequestTheSame (words others : List (List ℕ)) : Type 0 where
  pub files : requested words ≡ requested others
  pub made : requested_made_pair words ≡ requested_made_pair others
  pub refutation : requested_refutation words ≡ requested_refutation others

-- after two files a value follows its option as the next word, or is joined to it by an equals sign
abbrev pub ValuesMayBeJoined : Type 0
ValuesMayBeJoined = (program spec imp value : List ℕ) → is_plain spec ≡ true → is_plain imp ≡ true
    → is_plain value ≡ true
    → All (λ option. RequestTheSame (program ∷ spec ∷ imp ∷ (codes "--" ++ option) ∷ value ∷ []) (program ∷ spec ∷ imp ∷ (codes "--" ++ option ++ codes "=" ++ value) ∷ [])) options

-- after two files `--care` and a name request equivalence where this output is 1, if the name can be printed, and else
-- nothing
abbrev pub CareNamesAreRequested : Type 0
CareNamesAreRequested = (program spec imp text : List ℕ) → is_plain spec ≡ true → is_plain imp ≡ true → is_plain text ≡ true
    → requested (program ∷ spec ∷ imp ∷ codes "--care" ∷ text ∷ []) ≡ (if list_all is_ascii_graphic text then Some (record (files_alone spec imp) { care = Some text }) else None)

-- and so do `--invariant` and a name with the invariant
abbrev pub InvariantNamesAreRequested : Type 0
InvariantNamesAreRequested = (program spec imp text : List ℕ) → is_plain spec ≡ true → is_plain imp ≡ true
    → is_plain text ≡ true → requested (program ∷ spec ∷ imp ∷ codes "--invariant" ∷ text ∷ [])
    ≡ (if list_all is_ascii_graphic text then Some (record (files_alone spec imp) { invariant = Some text }) else None)

-- after two files `--fill` requests the filled implementation
abbrev pub FillIsRequested : Type 0
FillIsRequested = (program spec imp : List ℕ) → is_plain spec ≡ true → is_plain imp ≡ true
    → requested (program ∷ spec ∷ imp ∷ codes "--fill" ∷ []) ≡ Some (record (files_alone spec imp) { fill = true })

-- less than two words are no two files
abbrev pub FewWordsRequestNothing : Type 0
FewWordsRequestNothing = RequestNothing [] × ((program : List ℕ) → RequestNothing (program ∷ [])) × ((program spec : List ℕ)
    → is_plain spec ≡ true → RequestNothing (program ∷ spec ∷ []))

-- words request a comparison of files, a made pair or a refutation, or nothing
pub record WordsRequestAtMostOne : Type 0 where
  pub not_both : (words : List (List ℕ)) (r : Request) (f : Refutation) → requested words ≡ Some r
      → requested_refutation words ≡ Some f → ⊥
  pub not_files_and_made : (words : List (List ℕ)) (r : Request) (m : MadePair) → requested words ≡ Some r
      → requested_made_pair words ≡ Some m → ⊥
  pub not_made_and_refuted : (words : List (List ℕ)) (m : MadePair) (f : Refutation) → requested_made_pair words ≡ Some m
      → requested_refutation words ≡ Some f → ⊥
  -- and the flag and the width alone say which
  pub without : (words : List (List ℕ)) (found : Found) → found_in words ≡ Some found → is_refuting found ≡ false
      → requested_refutation words ≡ None
  pub with : (words : List (List ℕ)) (found : Found) → found_in words ≡ Some found → is_refuting found ≡ true
      → (requested words ≡ None) × (requested_made_pair words ≡ None)
  pub without_width : (words : List (List ℕ)) (found : Found) → found_in words ≡ Some found → is_making found ≡ false
      → requested_made_pair words ≡ None
  pub with_width : (words : List (List ℕ)) (found : Found) → found_in words ≡ Some found → is_making found ≡ true
      → (requested words ≡ None) × (requested_refutation words ≡ None)
  -- the names of a refutation's files are not empty
  pub names : (words : List (List ℕ)) (f : Refutation) → requested_refutation words ≡ Some f → (f.cnf ≢ []) × (f.adds ≢ [])

-- after two files these make no request: a third file, an option or a flag that is given twice, a value on a flag, and
-- a name that is neither an option's nor a flag's
pub record WordsAreRefused (program spec imp : List ℕ) : Type 0 where
  pub third : (word : List ℕ) → is_plain word ≡ true → RequestNothing (program ∷ spec ∷ imp ∷ word ∷ [])
  pub option_twice : (value other : List ℕ) → is_plain value ≡ true → is_plain other ≡ true
      → All (λ option. RequestNothing (program ∷ spec ∷ imp ∷ (codes "--" ++ option) ∷ value ∷ (codes "--" ++ option) ∷ other ∷ [])) options
  pub flag_twice : All (λ flag. RequestNothing (program ∷ spec ∷ imp ∷ (codes "--" ++ flag) ∷ (codes "--" ++ flag) ∷ [])) flags
  pub flag_value : (value : List ℕ)
      → All (λ flag. RequestNothing (program ∷ spec ∷ imp ∷ (codes "--" ++ flag ++ codes "=" ++ value) ∷ [])) flags
  pub unknown : (name : List ℕ) → name ≢ [] → All (λ b. b ≢ 61) name → (Contains (flags ++ options) name → ⊥)
      → RequestNothing (program ∷ spec ∷ imp ∷ (codes "--" ++ name) ∷ [])

abbrev pub SomeWordsAreRefused : Type 0
SomeWordsAreRefused = (program spec imp : List ℕ) → is_plain spec ≡ true → is_plain imp ≡ true
    → WordsAreRefused program spec imp

-- two words after `--` are two files, also with a minus sign before it
abbrev pub AllAreFilesAfter : Type 0
AllAreFilesAfter = (program spec imp : List ℕ) → spec ≢ [] → imp ≢ []
    → requested (program ∷ codes "--" ∷ spec ∷ imp ∷ []) ≡ Some (files_alone spec imp)

-- the same is found among these arguments
pub record SayTheSame (arguments others : List Argument) : Type 0 where
  pub taken : are_taken arguments ≡ are_taken others
  pub spec : (found_among arguments).spec ≡ (found_among others).spec
  pub imp : (found_among arguments).imp ≡ (found_among others).imp
  pub has_flag : (name : List ℕ) → (found_among arguments).has_flag name ≡ (found_among others).has_flag name
  pub value : (name : List ℕ) → (found_among arguments).value name ≡ (found_among others).value name

-- of arguments that are taken two neighbours may be exchanged of which one is no file, so flags and options may come
-- anywhere among the files
abbrev pub OrderIsFree : Type 0
OrderIsFree = (before after : List Argument) (a b : Argument) → (file_in a ≡ None) ⊎ (file_in b ≡ None)
    → are_taken (before ++ a ∷ b ∷ after) ≡ true → SayTheSame (before ++ a ∷ b ∷ after) (before ++ b ∷ a ∷ after)
