-- The request of a command line: which files are compared and which module is the top of each, at which output of the
-- specification equivalence is requested, or which is an invariant of its registers, whether the filled implementation is to be printed, which checks run, and
-- within which bounds; or, with `--make`, how wide a pair is made and compared by these checks, without a file; or,
-- with `--rup`, which files have a formula and its refutation. Words that are no command line, or whose values are not
-- in the table below, make no request.
use Rattle.std.specs.Prelude.{◌≡◌, ◌&&◌, ◌||◌, ◌≤◌, ℕ, Bool, not, is_some, nat_le, List, [], ◌∷◌, Option, Some, None}
use Rattle.std.specs.Prelude.{if◌then◌else◌, option_and_then, option_map, option_copied, find, codes}
use Rattle.std.specs.Char.{is_ascii_graphic}
use Rattle.std.specs.List.{list_all}
use Rattle.std.specs.Str.{bytes_eq}
use Rattle.bb_options.specs.declared.options.Options.{Options}
use Rattle.bb_options.specs.declared.rung.Rung.{Rung}
use Rattle.bb_options.specs.declared.rung.Rung.TheVariants.{Ternary, Expand}
use Rattle.bb_options.specs.Rungs.{AreBounds, all_rungs, rank, rung_name}
use Rattle.bb_args.specs.CommandLines.{Found, found_in, options}
use Rattle.bb_args.specs.Numbers.{number_within}
use Rattle.bb_args.specs.declared.requested.FileComparison.{FileComparison}
use Rattle.bb_args.specs.declared.requested.Wanted.{Wanted}
use Rattle.bb_args.specs.declared.requested.Wanted.TheVariants as wanted

pub record Request : Type 0 where
  -- the names of the two files
  pub spec : List ℕ
  pub imp : List ℕ
  -- the name of the top module, where it is given
  pub top_spec : Option (List ℕ)
  pub top_imp : Option (List ℕ)
  -- the text of the care output, where one is given
  pub care : Option (List ℕ)
  -- that of the invariant, where one is given
  pub invariant : Option (List ℕ)
  -- whether the filled implementation is requested
  pub fill : Bool
  pub options : Options

-- a made pair, and the checks that compare it
pub record MadePair : Type 0 where
  -- the number of bits of its adders
  pub n : ℕ
  -- whether the filled implementation is requested
  pub fill : Bool
  pub options : Options

-- a formula and clause additions
pub record Refutation : Type 0 where
  -- the names of the two files
  pub cnf : List ℕ
  pub adds : List ℕ

-- a name is not empty
abbrev pub name : List ℕ → Option (List ℕ)
name [] = None
name (b ∷ bs) = Some (b ∷ bs)

-- the check of this name
abbrev pub rung_named : List ℕ → Option Rung
rung_named text = find (λ rung. bytes_eq (rung_name rung) text) all_rungs

-- the value of an option, or its default where it is not given
abbrev pub value_or : {X : Type 0} → X → (List ℕ → Option X) → Option (List ℕ) → Option X
value_or default read None = Some default
value_or default read (Some text) = read text

-- the name of a file has to be given
abbrev pub file : Option (List ℕ) → Option (List ℕ)
file = option_and_then name

-- the name of a module may be given
abbrev pub top : Option (List ℕ) → Option (Option (List ℕ))
top = value_or None (λ text. option_map (λ if_given. Some if_given) (name text))

-- a name that can be printed: one or more bytes, all from 33 to 126
abbrev pub printable : List ℕ → Option (List ℕ)
printable text = if list_all is_ascii_graphic text then name text else None

-- the text of a care output, or of an invariant, may be given; no bit of a port has a name that cannot be printed
abbrev pub care : Option (List ℕ) → Option (Option (List ℕ))
care = value_or None (λ text. option_map (λ if_given. Some if_given) (printable text))

-- of a care output and an invariant one may be given
abbrev pub one_at_most : Option (List ℕ) → Option (List ℕ) → Bool
one_at_most care invariant = not (is_some care && is_some invariant)

-- what follows from a value, if there is one
abbrev pub if_given : {X Y : Type 0} → Option X → (X → Option Y) → Option Y
if_given value next = option_and_then next value

-- which checks are run, and their bounds, by what was found
abbrev pub options_by : Found → Option Options
options_by found =
    if_given (value_or Ternary rung_named (found.value (codes "from"))) (λ from.
    if_given (value_or Expand rung_named (found.value (codes "to"))) (λ to.
    if_given (value_or 32 (number_within 0 4096) (found.value (codes "patterns"))) (λ patterns.
    if_given (value_or 1 (number_within 1 18446744073709551615) (found.value (codes "seed"))) (λ seed.
    if_given (value_or 1000000 (number_within 0 50000000) (found.value (codes "nodes"))) (λ nodes.
    if_given (value_or 65536 (number_within 1 1048576) (found.value (codes "cache"))) (λ cache.
    if_given (value_or 2000000 (number_within 0 8000000) (found.value (codes "clauses"))) (λ clauses.
    if nat_le (rank from) (rank to) then Some (record {
      from = from;
      to = to;
      all = found.has_flag (codes "all");
      patterns = patterns;
      seed = seed;
      nodes = nodes;
      cache = cache;
      clauses = clauses;
      proof = found.has_flag (codes "proof");
      shared = found.has_flag (codes "shared");
    }) else None)))))))

-- the whole comparison, by what was found
abbrev pub request_by : Found → Option Request
request_by found =
    if_given (file found.spec) (λ spec.
    if_given (file found.imp) (λ imp.
    if_given (top (found.value (codes "top-spec"))) (λ top_spec.
    if_given (top (found.value (codes "top-impl"))) (λ top_imp.
    if_given (care (found.value (codes "care"))) (λ care_output.
    if_given (care (found.value (codes "invariant"))) (λ invariant.
    if_given (options_by found) (λ options.
    if one_at_most care_output invariant then Some (record {
      spec = spec;
      imp = imp;
      top_spec = top_spec;
      top_imp = top_imp;
      care = care_output;
      invariant = invariant;
      fill = found.has_flag (codes "fill");
      options = options;
    }) else None)))))))

-- whether the flag for a refutation is given
abbrev pub is_refuting : Found → Bool
is_refuting found = found.has_flag (codes "rup")

-- whether an option is not given, whatever its value would be
abbrev pub is_absent : Found → List ℕ → Bool
is_absent found option = not (is_some (found.value option))

-- no other flag is given, and no option
abbrev pub is_alone : Found → Bool
is_alone found =
    not (found.has_flag (codes "all")) && not (found.has_flag (codes "proof")) && not (found.has_flag (codes "shared"))
    && not (found.has_flag (codes "fill")) && list_all (is_absent found) options

-- whether the width of a made pair is given
abbrev pub is_making : Found → Bool
is_making found = not (is_absent found (codes "make"))

-- no file, no top, no care output and no invariant is given
abbrev pub has_no_files : Found → Bool
has_no_files found = not (is_some found.spec) && not (is_some found.imp)
    && list_all (is_absent found) (codes "top-spec" ∷ codes "top-impl" ∷ codes "care" ∷ codes "invariant" ∷ [])

-- files are compared without that flag and without a width
abbrev pub comparison_by : Found → Option Request
comparison_by found = if is_refuting found || is_making found then None else request_by found

-- a made pair, which has one box, is requested by its width, from 1 to 256, without that flag, the one for shared
-- contents, a file, a top, a care output or an invariant
abbrev pub made_pair_by : Found → Option MadePair
made_pair_by found =
    if_given (option_and_then (number_within 1 256) (found.value (codes "make"))) (λ n.
    if_given (options_by found) (λ options.
    if not (is_refuting found) && (not options.shared && has_no_files found)
    then Some (record { n = n; fill = found.has_flag (codes "fill"); options = options }) else None))

-- a refutation is requested with it alone, and with both files
abbrev pub refutation_by : Found → Option Refutation
refutation_by found =
    if_given (file found.spec) (λ cnf.
    if_given (file found.imp) (λ adds.
    if is_refuting found && is_alone found then Some (record { cnf = cnf; adds = adds }) else None))

-- the comparison of files that words request
abbrev pub requested : List (List ℕ) → Option Request
requested words = option_and_then comparison_by (found_in words)

-- the made pair that words request
abbrev pub requested_made_pair : List (List ℕ) → Option MadePair
requested_made_pair words = option_and_then made_pair_by (found_in words)

-- the refutation that words request
abbrev pub requested_refutation : List (List ℕ) → Option Refutation
requested_refutation words = option_and_then refutation_by (found_in words)

-- the request that the code hands over
abbrev pub request_of : FileComparison → Request
request_of a = record {
  spec = a.spec.now;
  imp = a.imp.now;
  top_spec = option_copied a.top_spec;
  top_imp = option_copied a.top_imp;
  care = option_copied a.care;
  invariant = option_copied a.invariant;
  fill = a.fill;
  options = a.options;
}

-- what the code hands over, by what was found
abbrev pub IsWantedBy : Found → Wanted → Type 0
IsWantedBy found (wanted.Comparison a) = comparison_by found ≡ Some (request_of a)
IsWantedBy found (wanted.MadePair n fill options) =
    made_pair_by found ≡ Some (record { n = n; fill = fill; options = options })
IsWantedBy found (wanted.Refutation cnf adds) =
    refutation_by found ≡ Some (record { cnf = cnf.now; adds = adds.now })

-- and requested by words
abbrev pub AreRequestFor : List (List ℕ) → Wanted → Type 0
AreRequestFor words (wanted.Comparison a) = requested words ≡ Some (request_of a)
AreRequestFor words (wanted.MadePair n fill options) = requested_made_pair words ≡ Some (record { n = n; fill = fill; options = options })
AreRequestFor words (wanted.Refutation cnf adds) = requested_refutation words ≡ Some (record { cnf = cnf.now; adds = adds.now })

-- words that make no request
pub record RequestNothing (words : List (List ℕ)) : Type 0 where
  pub comparison : requested words ≡ None
  pub made : requested_made_pair words ≡ None
  pub refutation : requested_refutation words ≡ None

-- the bounds of the requested checks
abbrev pub HasBounds : Wanted → Type 0
HasBounds (wanted.Comparison a) = AreBounds a.options
HasBounds (wanted.MadePair n fill options) = (1 ≤ n) × (n ≤ 256) × AreBounds options
HasBounds (wanted.Refutation cnf adds) = Unit {0}
