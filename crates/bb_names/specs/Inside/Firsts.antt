-- The leftmost fault of each kind among sites that are visited from left to right.
use Rattle.std.specs.Prelude.{◌≡◌, ◌⊎◌, ℕ, ◌-◌, ◌^◌, ◌==◌, Bool, not, if◌then◌else◌, List, [], ◌∷◌, ◌++◌, Option, Some, None, option_map, fold, min, Result, MatchResult, OnOk}
use Rattle.std.specs.List.{flat_map}
use Rattle.std.specs.Option.{option_or}
use Rattle.bb_ast.specs.declared.module.Gate.{Gate}
use Rattle.bb_ast.specs.declared.operators.WordOp.{WordOp}
use Rattle.bb_ast.specs.Syntax.{Expression, PlainAlways, PlainConns, PlainHead, PlainItem, PlainModule}
use Rattle.bb_ast.specs.Folds.{fold_by}
use Rattle.bb_names.specs.declared.fault.NameFault.{NameFault}
use Rattle.bb_names.specs.declared.fault.NameFault.TheVariants as faults
use Rattle.bb_names.specs.declared.faults.found.Found.{Found}
use Rattle.bb_names.specs.declared.faults.roles.Role.{Role}
use Rattle.bb_names.specs.declared.faults.roles.Role.TheVariants as roles
use Rattle.bb_names.specs.Declarations.{Declaration, declared_by, declared_by_head, instance_declaration}
use Rattle.bb_names.specs.Faults.{Rows, statement_faults, reported_if, twice, unknown, wrong_select, wrong_width, wrong_role}
use Rattle.bb_names.specs.Sites.{Use, Read, Driven, Stored, Site, HeadName, Declared as DeclaredSite, Placed, Terminal, Clock, inside, part_sites, sites_in, declared_sites, conns_sites, place_count, item_sites}
use Rattle.bb_bits.specs.Earlier.{has_name}
use Rattle.bb_names.specs.Widths.{operator_width}

abbrev pub first_of : {A : Type 0} → List A → Option A
first_of [] = None
first_of (x ∷ xs) = Some x

-- the leftmost name that rows report of sites
abbrev pub first_reported : Rows → List PlainModule → PlainModule → List Site → Option (List ℕ)
first_reported rows text m sites = first_of (flat_map (rows text m) sites)

-- what is found if these sites are right of those before
abbrev pub noted : List PlainModule → PlainModule → Found → List Site → Found
noted text m f sites = record {
  twice = option_or f.twice (first_reported twice text m sites);
  unknown = option_or f.unknown (first_reported unknown text m sites);
  select = option_or f.select (first_reported wrong_select text m sites);
  width = option_or f.width (first_reported wrong_width text m sites);
  role = option_or f.role (first_reported wrong_role text m sites);
}

-- after a call that ends well, what is found is noted of these sites besides, whatever modules the text has
abbrev pub Notes : {A E : Type 0} → Result A E → PlainModule → Found → Found → List Site → Type 0
Notes result m old new sites = (text : List PlainModule) → OnOk result (new ≡ noted text m old sites)

abbrev pub nothing : Found
nothing = record { twice = None; unknown = None; select = None; width = None; role = None }

-- the first fault in the order of the kinds
abbrev pub first_fault : ℕ → Found → Option NameFault
first_fault line f = option_or (option_map (faults.Twice line) f.twice) (option_or (option_map (faults.Unknown line) f.unknown)
    (option_or (option_map (faults.Select line) f.select) (option_or (option_map (faults.Width line) f.width) (option_map (faults.Role line) f.role))))

abbrev pub use_of : Role → Use
use_of roles.Read = Read
use_of roles.Driven = Driven
use_of roles.Stored = Stored

-- the sites in an expression, without the whole
abbrev pub inner_sites : Use → Expression → List Site
inner_sites how = fold_by (λ x sites. (x, sites)) (inside how)

-- a width, saturated at 2^64 - 1
abbrev pub saturated : ℕ → ℕ
saturated n = min n (2 ^ 64 - 1)

-- the own width of operators on words, where the operand left of them has this width
abbrev pub words_width : ℕ → List (WordOp × ℕ) → ℕ
words_width left rest = fold (λ l x. operator_width x.0 l x.1) left rest

-- a part of a concatenation or replication
abbrev pub sites_of_part : Use → Expression → List Site
sites_of_part how e = part_sites (e, inner_sites how e)

-- where an expression has not the width that is wanted, a word is reported before all faults in it
abbrev pub noted_width : List PlainModule → PlainModule → Found → ℕ → ℕ → List ℕ → List Site → Found
noted_width text m f width wanted word sites = noted text m (record f { width = option_or f.width (first_of (reported_if (not (width == wanted)) word)) }) sites

-- a name of a header, after the earlier ones
abbrev pub head_sites : List PlainHead → PlainHead → List Site
head_sites before head = HeadName before head.name ∷ declared_sites (flat_map declared_by_head before) (declared_by_head head)

-- a terminal of a gate
abbrev pub terminal_sites : Gate → Bool → Expression → List Site
terminal_sites gate output e = Terminal gate output e ∷ sites_in (if output then Driven else Read) e

-- a register
abbrev pub register_sites : PlainAlways → List Site
register_sites r = Clock r.clock ∷ sites_in Read r.clock ++ sites_in Stored r.left ++ sites_in Read r.right

-- an instance, after the earlier declarations
abbrev pub call_sites : Option PlainModule → List Declaration → List ℕ × PlainConns → List Site
call_sites target before x = DeclaredSite before (instance_declaration x.0) ∷ Placed target x.0 (place_count x.1) ∷ conns_sites target x.1

-- the same names are among both
abbrev pub AreSame : List (List ℕ) → List (List ℕ) → Type 0
AreSame keys names = (n : List ℕ) → has_name n keys ≡ has_name n names

-- no fault is returned where there is none, and else the first, unless memory runs out
abbrev pub Answers : {A : Type 0} → Result A NameFault → List NameFault → Type 0
Answers result all = MatchResult result (λ _. all ≡ []) (λ fault. (fault ≡ faults.NoMemory) ⊎ (first_of all ≡ Some fault))

-- the faults of an item, after the earlier ones
abbrev pub item_faults : List PlainModule → PlainModule → List PlainItem → PlainItem → List NameFault
item_faults text m before item = statement_faults text m item.line (item_sites text (flat_map declared_by_head m.heads ++ flat_map (λ x. declared_by x.body) before) item.body)
