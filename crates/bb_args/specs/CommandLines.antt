-- What a command line means: its words after the program's own name, from left to right, in the manner of getopt_long
-- with long names. `--name` is a flag; `--name value` and `--name=value` give an option its value; after `--` each word
-- is a file, and before it each that does not begin with a minus sign or is nothing more. But a value that begins with
-- one and has more follows the equals sign, so `--` is no value; each flag and option comes once at most, files may
-- come among them; there are no short names, no shortened ones and no help.
use Rattle.std.specs.Prelude.{◌==◌, ◌&&◌, ℕ, Bool, true, false, not, nat_le, List, [], ◌∷◌, map, length, drop}
use Rattle.std.specs.Prelude.{filter_map, Option, None, Some, option_map, if◌then◌else◌, codes, slice_get}
use Rattle.std.specs.List.{list_any, before_first, after_first}
use Rattle.std.specs.Str.{bytes_eq}

abbrev pub Text : Type 0
Text = List ℕ

abbrev pub flags : List Text
flags = codes "all" ∷ codes "proof" ∷ codes "rup" ∷ codes "shared" ∷ codes "fill" ∷ []

abbrev pub options : List Text
options = codes "top-spec" ∷ codes "top-impl" ∷ codes "from" ∷ codes "to" ∷ codes "patterns" ∷ codes "seed"
    ∷ codes "nodes" ∷ codes "clauses" ∷ codes "cache" ∷ codes "care"
    ∷ codes "invariant" ∷ codes "make" ∷ []

abbrev pub is_among : List Text → Text → Bool
is_among names name = list_any (λ known. bytes_eq known name) names

pub data Argument : Type 0 where
  File : Text → Argument
  Flag : Text → Argument
  -- an option with its value
  Valued : Text → Text → Argument

-- a minus sign (45), and more
abbrev pub is_dashed : Text → Bool
is_dashed [] = false
is_dashed (b ∷ []) = false
is_dashed (b ∷ c ∷ rest) = b == 45

-- what follows two of them
abbrev pub after_dashes : Text → Option Text
after_dashes [] = None
after_dashes (b ∷ []) = None
after_dashes (b ∷ c ∷ rest) = if b == 45 && c == 45 then Some rest else None

-- the equals sign (61)
abbrev pub is_equals : ℕ → Bool
is_equals b = b == 61

abbrev pub preceded : Argument → Option (List Argument) → Option (List Argument)
preceded argument = option_map (λ others. argument ∷ others)

-- the meaning of the words after one; the first of them may be the value of an option
abbrev pub Rest : Type 0
Rest = Option Text → Option (List Argument)

-- `--text`
abbrev pub long : Text → Rest → Option (List Argument)
long text others =
    if list_any is_equals text
    then (if is_among options (before_first is_equals text)
    then preceded (Valued (before_first is_equals text) (after_first is_equals text)) (others None) else None)
    else (if is_among flags text then preceded (Flag text) (others None)
    else (if is_among options text then others (Some text) else None))

-- `--` alone, or `--text`
abbrev pub two_dashes : Text → List Text → Rest → Option (List Argument)
two_dashes [] words others = Some (map File words)
two_dashes (b ∷ bs) words others = long (b ∷ bs) others

-- a word by what follows its two minus signs; one without them is a file, if it has not one alone and more
abbrev pub arguments_by : Option Text → Text → List Text → Rest → Option (List Argument)
arguments_by None word words others = if is_dashed word then None else preceded (File word) (others None)
arguments_by (Some text) word words others = two_dashes text words others

-- the meaning of words, of which the first is the value of an option where one waits for it
abbrev pub arguments_of : Option Text → List Text → Option (List Argument)
arguments_of None [] = Some []
arguments_of (Some name) [] = None
arguments_of None (word ∷ words) = arguments_by (after_dashes word) word words (λ waiting. arguments_of waiting words)
arguments_of (Some name) (word ∷ words) =
    if is_dashed word then None else preceded (Valued name word) (arguments_of None words)

abbrev pub file_in : Argument → Option Text
file_in (File text) = Some text
file_in (Flag name) = None
file_in (Valued name value) = None

abbrev pub files_in : List Argument → List Text
files_in = filter_map file_in

abbrev pub has_option_name : Text → Argument → Bool
has_option_name name (File text) = false
has_option_name name (Flag other) = bytes_eq other name
has_option_name name (Valued other value) = bytes_eq other name

-- a flag or an option that is among others again
abbrev pub comes_again : Argument → List Argument → Bool
comes_again (File text) others = false
comes_again (Flag name) others = list_any (has_option_name name) others
comes_again (Valued name value) others = list_any (has_option_name name) others

abbrev pub are_once : List Argument → Bool
are_once [] = true
are_once (argument ∷ others) = not (comes_again argument others) && are_once others

-- two files at most, and each flag and each option once at most
abbrev pub are_taken : List Argument → Bool
are_taken arguments = nat_le (length (files_in arguments)) 2 && are_once arguments

-- the files, flags and options that are given
pub record Found : Type 0 where
  pub spec : Option Text
  pub imp : Option Text
  pub has_flag : Text → Bool
  pub value : Text → Option Text

abbrev pub is_flag : Text → Argument → Bool
is_flag name (File text) = false
is_flag name (Flag other) = bytes_eq other name
is_flag name (Valued other value) = false

abbrev pub option_value : Text → List Argument → Option Text
option_value name [] = None
option_value name (File text ∷ others) = option_value name others
option_value name (Flag other ∷ others) = option_value name others
option_value name (Valued other value ∷ others) = if bytes_eq other name then Some value else option_value name others

-- the specification's file is the first
abbrev pub found_among : List Argument → Found
found_among arguments = record {
  spec = slice_get (files_in arguments) 0;
  imp = slice_get (files_in arguments) 1;
  has_flag = λ name. list_any (is_flag name) arguments;
  value = λ name. option_value name arguments;
}

-- words, of which the first is the program's own name, by their meaning, if they are a command line
abbrev pub taken : Option (List Argument) → Option Found
taken None = None
taken (Some arguments) = if are_taken arguments then Some (found_among arguments) else None

abbrev pub found_in : List Text → Option Found
found_in words = taken (arguments_of None (drop 1 words))
