-- The formula of each place of a netlist without boxes is what its cell is made of.
use Rattle.std.proofs.Common.{◌≡◌, ◌<◌, ℕ, zero, suc, List, length, refl, ap, arith}
use Rattle.std.proofs.Math.Path.{ap₂}
use Rattle.bb_net.specs.declared.cell.Cell.{Cell}
use Rattle.bb_net.specs.declared.cell.Cell.TheVariants as cell
use Rattle.bb_net.specs.Netlists.{Netlist, Pins, cell_at, ReadsBefore, IsOrdered}
use Rattle.bb_word.specs.Laws.Formulas.{Formula, Not, And, Or, Xor, cell_formula, formula_within, formula_at}
use Rattle.bb_word.specs.Inside.Adding.{Meets}

formula_same : (inputs : ℕ) (boxes : List Pins) (v w : ℕ → Formula) (place : ℕ) (c : Cell) → ReadsBefore inputs boxes place c → ((k : ℕ) → k < place → v k ≡ w k) → cell_formula v c ≡ cell_formula w c
formula_same inputs boxes v w place (cell.Const b) h same = refl
formula_same inputs boxes v w place (cell.Input i) h same = refl
formula_same inputs boxes v w place (cell.Not a) h same = ap Not (same a h)
formula_same inputs boxes v w place (cell.And a b) h same = ap₂ And (same a h.0) (same b h.1)
formula_same inputs boxes v w place (cell.Or a b) h same = ap₂ Or (same a h.0) (same b h.1)
formula_same inputs boxes v w place (cell.Xor a b) h same = ap₂ Xor (same a h.0) (same b h.1)
formula_same inputs boxes v w place (cell.Mux a b c) h same = let p = same a h.0 in let q = same b h.1 in let r = same c h.2 in cc
formula_same inputs boxes v w place (cell.BoxOut b p) h same = refl

-- more steps than the place needs change nothing
formula_within-enough : (net : Netlist) → IsOrdered net → (n m place : ℕ) → place < n → place < m → place < length net.cells → formula_within net.cells n place ≡ formula_within net.cells m place
unfolding formula_within
formula_within-enough net ordered zero m place p q there = absurd (omega arith)
formula_within-enough net ordered (suc n) zero place p q there = absurd (omega arith)
formula_within-enough net ordered (suc n) (suc m) place p q there =
    formula_same net.inputs net.boxes (formula_within net.cells n) (formula_within net.cells m) place (cell_at net.cells place) (ordered place there)
    (λ k below. formula_within-enough net ordered n m k (omega arith) (omega arith) (omega arith))

pub formula_at-meets : (net : Netlist) → IsOrdered net → Meets net.cells (formula_at net.cells)
unfolding formula_within
formula_at-meets net ordered place there =
    formula_same net.inputs net.boxes (formula_within net.cells place) (formula_at net.cells) place (cell_at net.cells place) (ordered place there)
    (λ k below. formula_within-enough net ordered place (suc k) k below (omega arith) (omega arith))
