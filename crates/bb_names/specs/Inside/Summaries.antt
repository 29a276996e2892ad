-- What the declarations of one name say together: the range of the first and whether it is an instance's, the first direction,
-- the first kind, whether one is an instance's, and whether those that are no supplies have one range.
use Rattle.std.specs.Prelude.{◌≡◌, ℕ, Bool, true, false, not, ◌&&◌, ◌||◌, List, ◌++◌, map, Option, is_some, Result, OnOk}
use Rattle.std.specs.List.{find, filter, list_any}
use Rattle.std.specs.Map.{lookup}
use Rattle.std.specs.Option.{option_and_then, option_map_or}
use Rattle.bb_bits.specs.Names.{same_name}
use Rattle.bb_ast.specs.declared.module.Range.{Range}
use Rattle.bb_names.specs.declared.summary.DeclaredAs.{DeclaredAs}
use Rattle.bb_names.specs.declared.summary.Ranges.{Ranges}
use Rattle.bb_names.specs.declared.summary.Ranges.TheVariants.{NoRange, Same, Different}
use Rattle.bb_names.specs.declared.summary.Summary.{Summary}
use Rattle.bb_names.specs.Declarations.{Declaration}
use Rattle.bb_names.specs.Faults.{declares_supply, same_range}

-- what is declared, of a name
abbrev pub named : List ℕ → DeclaredAs → Declaration
named n d = record { name = n; dir = d.dir; kind = d.kind; range = d.range; instance = d.instance }

-- one of the ranges is another
abbrev pub has_other : Ranges → Option Range → Bool
has_other NoRange range = false
has_other (Same first) range = not (same_range first range)
has_other Different range = true

-- the summary leaves no room for one more declaration; port says whether the name is a port
abbrev pub leaves_no_room : Bool → Declaration → Summary → Bool
leaves_no_room port d s = (is_some s.dir && is_some d.dir) || ((is_some s.kind && is_some d.kind) || (s.instances || (d.instance || (port && (not (declares_supply d) && has_other s.ranges d.range)))))

-- it determines of each range whether one of these is another
abbrev pub Reports : Ranges → List (Option Range) → Type 0
Reports ranges all = (range : Option Range) → has_other ranges range ≡ list_any (λ x. not (same_range x range)) all

-- the ranges of the declarations of a name that are no supplies
abbrev pub plain_ranges : List ℕ → List Declaration → List (Option Range)
plain_ranges n all = map (λ d. d.range) (filter (λ d. same_name d.name n && not (declares_supply d)) all)

-- what is said of a name, if it is declared
pub record IsSummary (n : List ℕ) (all : List Declaration) (s : Option Summary) : Type 0 where
  pub declared : is_some s ≡ list_any (λ d. same_name d.name n) all
  pub range : option_and_then (λ x. x.range) s ≡ option_and_then (λ d. d.range) (find (λ d. same_name d.name n) all)
  pub instance : option_map_or (λ x. x.instance) s false ≡ option_map_or (λ d. d.instance) (find (λ d. same_name d.name n) all) false
  pub dir : option_and_then (λ x. x.dir) s ≡ option_and_then (λ d. d.dir) (find (λ d. same_name d.name n && is_some d.dir) all)
  pub kind : option_and_then (λ x. x.kind) s ≡ option_and_then (λ d. d.kind) (find (λ d. same_name d.name n && is_some d.kind) all)
  pub instances : option_map_or (λ x. x.instances) s false ≡ list_any (λ d. same_name d.name n && d.instance) all
  pub ranges : Reports (option_map_or (λ x. x.ranges) s NoRange) (plain_ranges n all)

-- the entries hold for each name what its declarations say
abbrev pub Describes : List (List ℕ × Summary) → List Declaration → Type 0
Describes entries all = (n : List ℕ) → IsSummary n all (lookup (same_name n) entries)

-- after a call that ends well, the entries describe these declarations besides
abbrev pub Declares : {A E : Type 0} → Result A E → List (List ℕ × Summary) → List (List ℕ × Summary) → List Declaration → Type 0
Declares result old new more = (before : List Declaration) → Describes old before → OnOk result (Describes new (before ++ more))
