-- Sites of a module at which nothing is at fault, and laws of what is there.
use Rattle.std.specs.Prelude.{◌≡◌, ◌≢◌, ℕ, false, List, [], map, Contains, Option}
use Rattle.bb_ast.specs.Syntax.{PlainModule, Expression, PlainBody, PlainItem}
use Rattle.bb_names.specs.declared.fault.NameFault.{NameFault}
use Rattle.bb_names.specs.Faults.{Rows, kinds, IsSound}
use Rattle.bb_names.specs.Sites.{Site, Use, Clock, Used, item_sites}
use Rattle.bb_design.specs.Hierarchy.{Scope}
use Rattle.bb_ast.specs.Names.{names_in}
use Rattle.bb_bits.specs.Contents.{Contents}
use Rattle.bb_names.specs.Declarations.{Declaration, declarations}
use Rattle.bb_names.specs.Nets.{net_names}
use Rattle.bb_design.specs.Constructs.{Construct, body_constructs}
use Rattle.bb_design.specs.Contexts.{width_of}
use Rattle.bb_design.specs.Laws.DrivenWorlds.{IsLegal}

-- no kind of fault is at a site of the module of a scope
abbrev pub IsSoundSite : List PlainModule → Scope → Site → Type 0
IsSoundSite text s site = (kind : (ℕ → List ℕ → NameFault) × Rows) → Contains kinds kind → kind.1 text s.source site ≡ []

-- in a text without faults nothing is at fault at a site of an item, with some declarations before it
abbrev pub SoundTextsHaveSoundSites : Type 0
SoundTextsHaveSoundSites = (text : List PlainModule) → IsSound text → (m : PlainModule) → Contains text m → (item : PlainItem) → Contains m.items item → (earlier : List Declaration)
    × ((site : Site) → Contains (item_sites text earlier item.body) site → (kind : (ℕ → List ℕ → NameFault) × Rows) → Contains kinds kind → kind.1 text m site ≡ [])

-- an item at whose sites nothing is at fault is legal
abbrev pub SoundItemsAreLegal : Type 0
SoundItemsAreLegal = (contents : Contents) (s : Scope) (text : List PlainModule) (earlier : List Declaration) (body : PlainBody)
    → ((site : Site) → Contains (item_sites text earlier body) site → IsSoundSite text s site) → (c : Construct) → Contains (body_constructs text body) c → IsLegal contents s c

-- a clock that names a net has one bit; the grammar lets a clock be a net or a bit of one alone, which the definitions
-- of syntax do not say, so what rests on this asks for a name
abbrev pub SoundClocksHaveOneBit : Type 0
SoundClocksHaveOneBit = (text : List PlainModule) (s : Scope) (e : Expression) → IsSoundSite text s (Clock e) → names_in e ≢ [] → width_of s e ≡ 1

-- what is used as a net is one
abbrev pub UsedNetsAreThere : Type 0
UsedNetsAreThere = (text : List PlainModule) (s : Scope) (how : Use) (n : List ℕ) (bits : Option (ℕ × ℕ)) → IsSoundSite text s (Used how n bits) → Contains (net_names s.source) n

-- names of the header are nets, and so are declared names but those of instances
pub record HasItsNets (m : PlainModule) : Type 0 where
  pub header : (n : List ℕ) → Contains (map (λ head. head.name) m.heads) n → Contains (net_names m) n
  pub declared : (d : Declaration) → Contains (declarations m) d → d.instance ≡ false → Contains (net_names m) d.name

abbrev pub DeclaredNamesAreNets : Type 0
DeclaredNamesAreNets = (m : PlainModule) → HasItsNets m
