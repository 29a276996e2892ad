-- Laws that a reader expects: tokens mean one source or have one first fault, and not both; a source is well formed, and no
-- larger than its text.
use Rattle.std.specs.Prelude.{◌≡◌, ◌⊎◌, ◌≤◌, ℕ, List, Ok, Err, length}
use Rattle.std.specs.List.{AllByRecursion}
use Rattle.bb_ast.specs.Syntax.{PlainModule}
use Rattle.bb_ast.specs.Inside.Formed.{IsFormed}
use Rattle.bb_lex.specs.declared.token.Token.{Token}
use Rattle.bb_lex.specs.Cut.{AreTokens}
use Rattle.bb_parse.specs.declared.fault.ParseFault.{ParseFault}
use Rattle.bb_parse.specs.Sources.{IsSource, IsParseFault, ReadsAs}
use Rattle.bb_parse.specs.Inside.Sources.{read_source}
use Rattle.bb_ast.specs.Inside.Sizes.{source_size}

abbrev pub SourcesAreOne : Type 0
SourcesAreOne = (text : List ℕ) (tokens : List Token) (ms ns : List PlainModule) → IsSource text tokens ms → IsSource text tokens ns → ms ≡ ns

abbrev pub FaultsAreOne : Type 0
FaultsAreOne = (text : List ℕ) (tokens : List Token) (e f : ParseFault) → IsParseFault text tokens e → IsParseFault text tokens f → e ≡ f

-- the tokens of a text mean a source or have a first fault
abbrev pub SourceOrFault : Type 0
SourceOrFault = (text : List ℕ) (tokens : List Token) → AreTokens text tokens → ((ms : List PlainModule) × IsSource text tokens ms) ⊎ ((e : ParseFault) × IsParseFault text tokens e)

abbrev pub NotSourceAndFault : Type 0
NotSourceAndFault = (text : List ℕ) (tokens : List Token) (ms : List PlainModule) (e : ParseFault) → IsSource text tokens ms → IsParseFault text tokens e → ⊥

-- a text reads as at most one source
abbrev pub TextsReadOnce : Type 0
TextsReadOnce = (text : List ℕ) (ms ns : List PlainModule) → ReadsAs text ms → ReadsAs text ns → ms ≡ ns

-- a source is no larger than its list of tokens, even where each module counts two more
abbrev pub SourcesAreShort : Type 0
SourcesAreShort = (text : List ℕ) (tokens : List Token) (modules : List PlainModule) → IsSource text tokens modules → source_size modules ≤ length tokens

-- and so no larger than its text has bytes
abbrev pub TextsAreLong : Type 0
TextsAreLong = (text : List ℕ) (modules : List PlainModule) → ReadsAs text modules → source_size modules ≤ length text

-- each module that a text reads as is well formed
abbrev pub SourcesAreFormed : Type 0
SourcesAreFormed = (text : List ℕ) (modules : List PlainModule) → ReadsAs text modules → AllByRecursion IsFormed modules

-- what read_source computes from the tokens of a text is their source exactly where they have one, and else their first fault
abbrev pub SourcesAreRead : Type 0
SourcesAreRead = (text : List ℕ) (tokens : List Token) (modules : List PlainModule) → AreTokens text tokens
    → (read_source text tokens ≡ Ok modules → IsSource text tokens modules) × (IsSource text tokens modules → read_source text tokens ≡ Ok modules)

abbrev pub FaultsAreRead : Type 0
FaultsAreRead = (text : List ℕ) (tokens : List Token) (fault : ParseFault) → AreTokens text tokens
    → (read_source text tokens ≡ Err fault → IsParseFault text tokens fault) × (IsParseFault text tokens fault → read_source text tokens ≡ Err fault)
