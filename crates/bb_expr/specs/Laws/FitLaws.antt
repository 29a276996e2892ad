-- Laws of the expressions of a checked module, of the names of nets, and of what may be assigned.
use Rattle.std.specs.Prelude.{◌≡◌, ◌≢◌, ◌≤◌, ℕ, true, List, [], map, slice_get, IsSomeAnd, All, Contains}
use Rattle.std.specs.List.{AllPairs, AllByRecursion}
use Rattle.bb_ast.specs.Syntax.{Expression, PlainModule}
use Rattle.bb_ast.specs.Assignable.{is_assignable}
use Rattle.bb_ast.specs.Inside.Formed.{IsFormed}
use Rattle.bb_ast.specs.Names.{names_in}
use Rattle.bb_names.specs.Nets.{nets_of}
use Rattle.bb_names.specs.Inside.Checked.{ModuleFacts, IsChecked}
use Rattle.bb_names.specs.Declarations.{range_of}
use Rattle.bb_names.specs.Faults.{IsSound}
use Rattle.bb_names.specs.Widths.{Ranges, own_width}
use Rattle.bb_expr.specs.Inside.Occurrences.{expressions_in, OccursAt, OccursIn}
use Rattle.bb_expr.specs.Terms.{Term, Net}
use Rattle.bb_expr.specs.Cells.{made}
use Rattle.bb_expr.specs.Inside.Fit.{HasNet, AreFit, AreFitIn}
use Rattle.bb_expr.specs.Lowered.{IsLowered}
use Rattle.bb_expr.specs.declared.step.BitStep.{BitStep}

-- an expression of a checked module is fit, and so are its parts
abbrev pub OccurrencesAreFit : Type 0
OccurrencesAreFit = (checked : List ModuleFacts) (k : ℕ) (e : Expression) → IsChecked checked → OccursAt checked k e → IsSomeAnd (slice_get checked k) (λ m. AreFit m e)

-- the same of a module of a well-formed text without faults
abbrev pub OccurrencesAreFitIn : Type 0
OccurrencesAreFitIn = (text : List PlainModule) (m : PlainModule) (e : Expression) → AllByRecursion IsFormed text → IsSound text → Contains text m → OccursIn m e → AreFitIn m e

-- what is fit can be lowered at each width that is at least its own
abbrev pub LoweringsExist : Type 0
LoweringsExist = (m : PlainModule) (e : Expression) (w : ℕ) → AreFitIn m e → own_width (range_of m) e ≤ w
    → (all : List BitStep) × (bits : List ℕ) × IsLowered (nets_of m) (range_of m) e w all bits

-- each name in it is the name of a net of the module
abbrev pub NamesAreNets : Type 0
NamesAreNets = (checked : List ModuleFacts) (k : ℕ) (e : Expression) → IsChecked checked → OccursAt checked k e → IsSomeAnd (slice_get checked k) (λ m. All (HasNet m) (names_in e))

-- the parts of an expression of a module are expressions of the module
abbrev pub PartsOccur : Type 0
PartsOccur = (checked : List ModuleFacts) (k : ℕ) (e x : Expression) → OccursAt checked k e → Contains (expressions_in e) x → OccursAt checked k x

-- no two nets of a module have one name
abbrev pub NetNamesDiffer : Type 0
NetNamesDiffer = (m : PlainModule) → AllPairs ◌≢◌ (map (λ net. net.name) (nets_of m))

-- a bit of a net
abbrev pub IsNetBit : Term → Type 0
IsNetBit (Net n i) = Unit {0}
IsNetBit term = ⊥

-- what may be assigned has no cells, and at its own width bits of nets alone
abbrev pub AssignableIsNets : Type 0
AssignableIsNets = (ranges : Ranges) (e : Expression) → is_assignable e ≡ true
    → ((w : ℕ) → (made ranges e w).cells ≡ []) × All IsNetBit (made ranges e (own_width ranges e)).bits
