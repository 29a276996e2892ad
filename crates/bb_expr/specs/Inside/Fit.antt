-- What may be relied on at an expression of a checked module: the nets that it names are nets of the module, the bits
-- that it selects are bits of these, a replication has copies, the operators on words of one expression are of one
-- level of precedence, and its width is one that a net may have (IEEE 1364-2005, 4.2, 5.1.2, 5.1.14 and 5.2.1, in a
-- profile).
use Rattle.std.specs.Prelude.{◌≡◌, ◌≤◌, ℕ, true, List, Some, slice_get, All, Contains}
use Rattle.std.specs.Map.{lookup}
use Rattle.bb_bits.specs.Names.{same_name}
use Rattle.bb_ast.specs.Syntax.{Expression, Net, Bit, Part, Repeat, Words, PlainModule}
use Rattle.bb_ast.specs.Levels.{IsOneLevel}
use Rattle.bb_names.specs.declared.net.NetInfo.{NetInfo}
use Rattle.bb_names.specs.Ranges.{has_bits}
use Rattle.bb_names.specs.Widths.{Ranges, own_width}
use Rattle.bb_names.specs.Declarations.{range_of}
use Rattle.bb_names.specs.Faults.{widest}
use Rattle.bb_names.specs.Nets.{net_names}
use Rattle.bb_names.specs.Inside.Checked.{ModuleFacts, syntax}
use Rattle.bb_expr.specs.Inside.Occurrences.{expressions_in}

-- the ranges of the nets of a module
abbrev pub ranges_in : ModuleFacts → Ranges
ranges_in m = range_of (syntax m)

-- a net of that name, at the place that is kept for the name
pub record HasNet (m : ModuleFacts) (n : List ℕ) : Type 0 where
  pub place : ℕ
  pub net : NetInfo
  pub kept : lookup (same_name n) m.index ≡ Some place
  pub there : slice_get m.nets place ≡ Some net
  pub name : net.name ≡ n
  pub range : net.range ≡ ranges_in m n

-- its own name, select or count is right, and the operators on words beside each other are of one level
abbrev pub IsRight : ModuleFacts → Expression → Type 0
IsRight m (Net n) = HasNet m n
IsRight m (Bit n i) = HasNet m n × (has_bits (ranges_in m n) i i ≡ true)
IsRight m (Part n i j) = HasNet m n × (has_bits (ranges_in m n) i j ≡ true)
IsRight m (Repeat k all) = 1 ≤ k
IsRight m (Words e rest) = IsOneLevel rest
IsRight m e = Unit {0}

pub record IsFit (m : ModuleFacts) (e : Expression) : Type 0 where
  pub right : IsRight m e
  pub some : 1 ≤ own_width (ranges_in m) e
  pub bounded : own_width (ranges_in m) e ≤ widest

-- an expression is fit, and so are those in it
pub record AreFit (m : ModuleFacts) (e : Expression) : Type 0 where
  pub each : All (IsFit m) (expressions_in e)

-- the same of an expression and a module alone, whatever is kept about the module

abbrev pub IsRightIn : PlainModule → Expression → Type 0
IsRightIn m (Net n) = Contains (net_names m) n
IsRightIn m (Bit n i) = Contains (net_names m) n × (has_bits (range_of m n) i i ≡ true)
IsRightIn m (Part n i j) = Contains (net_names m) n × (has_bits (range_of m n) i j ≡ true)
IsRightIn m (Repeat k all) = 1 ≤ k
IsRightIn m (Words e rest) = IsOneLevel rest
IsRightIn m e = Unit {0}

pub record IsFitIn (m : PlainModule) (e : Expression) : Type 0 where
  pub right : IsRightIn m e
  pub some : 1 ≤ own_width (range_of m) e
  pub bounded : own_width (range_of m) e ≤ widest

-- an expression is fit in the module, and so are those in it
abbrev pub AreFitIn : PlainModule → Expression → Type 0
AreFitIn m e = All (IsFitIn m) (expressions_in e)
