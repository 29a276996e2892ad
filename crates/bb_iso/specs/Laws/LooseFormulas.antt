-- Formulas of an unordered netlist: what the equation of each cell says, where the number in the list of box b of the
-- ordered netlist is entry b.
use Rattle.std.specs.Prelude.{◌≡◌, ◌↔◌, ℕ, ◌<◌, List, length, slice_index}
use Rattle.bb_net.specs.declared.loose.LooseCell.{LooseCell}
use Rattle.bb_net.specs.declared.loose.LooseCell.TheVariants as loose
use Rattle.bb_net.specs.Loose.{LooseList, IsLoose, loose_at}
use Rattle.bb_net.specs.Netlists.{Netlist, IsNetlist}
use Rattle.bb_net.specs.Orders.{IsOrderOf}
use Rattle.bb_iso.specs.Laws.Formulas.{Formula, Const, Input, Not, And, Or, Xor, Mux, BoxOut, formula_at}

-- f is the formula of a cell of the list, where at gives those of the places that it reads
abbrev pub IsFormulaOf : List ℕ → (ℕ → Formula) → LooseCell → Formula → Type 0
IsFormulaOf numbers at (loose.Const b) f = f ≡ Const b
IsFormulaOf numbers at (loose.Input i) f = f ≡ Input i
IsFormulaOf numbers at (loose.Not a) f = f ≡ Not (at a)
IsFormulaOf numbers at (loose.And a b) f = f ≡ And (at a) (at b)
IsFormulaOf numbers at (loose.Or a b) f = f ≡ Or (at a) (at b)
IsFormulaOf numbers at (loose.Xor a b) f = f ≡ Xor (at a) (at b)
IsFormulaOf numbers at (loose.Mux c t e) f = f ≡ Mux (at c) (at t) (at e)
IsFormulaOf numbers at (loose.BoxOut d p) f = (b : ℕ) × (b < length numbers) × (slice_index numbers b ≡ d) × (f ≡ BoxOut b p)
IsFormulaOf numbers at (loose.Copy p) f = f ≡ at p

-- formulas meet the equations of the list
abbrev pub AreLooseFormulas : LooseList → List ℕ → (ℕ → Formula) → Type 0
AreLooseFormulas l numbers at = (k : ℕ) → k < length l.cells → IsFormulaOf numbers at (loose_at l k) (at k)

-- the formulas of the ordered netlist are the only solution of the list's equations
abbrev pub OrderKeepsFormulas : Type 0
OrderKeepsFormulas = (l : LooseList) (net : Netlist) (numbers : List ℕ) → IsLoose l → IsNetlist net → (order : IsOrderOf l net numbers)
    → (at : ℕ → Formula) → AreLooseFormulas l numbers at ↔ ((k : ℕ) → k < length l.cells → at k ≡ formula_at net.cells (order.to k))
