-- The command as it is given to clap: two files by their place, the flags, and the options with one value each. No
-- option has a short form, and neither help nor a version is offered.
use Rattle.std.specs.Prelude.{◌≡◌, ◌++◌, Bool, true, false, List, [], ◌∷◌, map, Option, Some, codes}
use Rattle.std.specs.Option.{option_map_or}
use Rattle.std.specs.Str.{bytes_eq}
use Rattle.clap.specs.Words.{App, Row, Rule, fault_of, first_of, found_of, matches_of, new_app, new_rule, rows_of}
use Rattle.clap.specs.Walk.{is_empty}
use Rattle.clap.specs.declared.builder.action.ArgAction.TheVariants.{Set, SetTrue}
use Rattle.clap.specs.declared.parser.matches.ArgMatches.{ArgMatches}
use Rattle.bb_args.specs.CommandLines.{Found, Text, flags, found_in, is_among, options}

abbrev pub files : List Text
files = codes "SPEC" ∷ codes "IMPL" ∷ []

-- a word with no name before it
abbrev pub positional : Text → Rule
positional name = record (new_rule name) { action = Some Set }

-- `--name`
abbrev pub flag : Text → Rule
flag name = record (new_rule name) { long = Some name; action = Some SetTrue }

-- `--name value` or `--name=value`
abbrev pub valued : Text → Rule
valued name = record (new_rule name) { long = Some name; action = Some Set }

-- with no argument yet, and without the help that clap adds by itself
abbrev pub bare : App
bare = record { top = record (new_app (codes "bbeq")).top { disable_help_flag = true }; subs = [] }

-- with further arguments
abbrev pub with_rules : List Rule → App → App
with_rules rules app = record app { top = record app.top { rules = app.top.rules ++ rules } }

abbrev pub command : App
command = with_rules (map positional files ++ map flag flags ++ map valued options) bare

-- the command takes the words, of which the first is the program's own name
abbrev pub is_taken : List Text → Bool
is_taken words = is_empty (fault_of command words)

-- what clap finds in them: for a flag `true` where it is given and else `false`, for the others their values
abbrev pub rows_in : List Text → List Row
rows_in words = matches_of command words

-- whether the value of a flag says that it is given
abbrev pub is_true : Option Text → Bool
is_true value = option_map_or (λ text. bytes_eq text (codes "true")) value false

-- the values in clap's rows
abbrev pub by_rows : List Row → Found
by_rows rows = record {
  spec = first_of (codes "SPEC") rows;
  imp = first_of (codes "IMPL") rows;
  has_flag = λ name. is_true (first_of name rows);
  value = λ name. first_of name rows;
}

abbrev pub by_matches : ArgMatches → Found
by_matches matches = by_rows (rows_of (found_of matches))

-- what is found is the same, at each name of the command
pub record AreSame (found other : Found) : Type 0 where
  pub spec : found.spec ≡ other.spec
  pub imp : found.imp ≡ other.imp
  pub has_flag : (name : Text) → is_among flags name ≡ true → found.has_flag name ≡ other.has_flag name
  pub value : (name : Text) → is_among options name ≡ true → found.value name ≡ other.value name

-- what clap finds in words is what they mean as a command line by its definition
abbrev pub FindsIn : List Text → ArgMatches → Type 0
FindsIn words matches = (found : Found) × (found_in words ≡ Some found) × AreSame (by_matches matches) found
