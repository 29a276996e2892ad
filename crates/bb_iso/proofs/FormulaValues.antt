-- The value of a cell is that of its formula.
use Rattle.std.proofs.Common.{◌≡◌, ℕ, ◌<◌, zero, suc, Bool, not, ◌&&◌, ◌||◌, List, length, map, refl, sym, ap, ap₂, ◌∙◌, arith}
use Rattle.std.specs.Prelude.{All, if◌then◌else◌, Option, Some, None}
use Rattle.bb_net.specs.declared.cell.Cell.{Cell}
use Rattle.bb_net.specs.declared.cell.Cell.TheVariants as cell
use Rattle.bb_net.specs.Netlists.{Netlist, Pins, cell_at, box_at, ReadsBefore, IsOrdered}
use Rattle.bb_net.specs.Ternary.{not3, and3, or3, xor3, mux3, tern_of, gate3, IsTern}
use Rattle.bb_net.specs.Values.{bit_of, xor, gate, IsValue}
use Rattle.bb_iso.specs.Laws.Formulas.{Formula, Const, Input, Not, And, Or, Xor, Mux, BoxOut, cell_formula, formula_at}
use Rattle.bb_iso.proofs.FormulaLemmas.{formula_at-cell}

-- the bit of a formula, where pin gives that of an output pin of a box
abbrev pub formula_bit : List Bool → (ℕ → ℕ → Bool) → Formula → Bool
formula_bit x pin (Const b) = b
formula_bit x pin (Input i) = bit_of x i
formula_bit x pin (Not f) = not (formula_bit x pin f)
formula_bit x pin (And f g) = formula_bit x pin f && formula_bit x pin g
formula_bit x pin (Or f g) = formula_bit x pin f || formula_bit x pin g
formula_bit x pin (Xor f g) = xor (formula_bit x pin f) (formula_bit x pin g)
formula_bit x pin (Mux f g h) = if formula_bit x pin f then formula_bit x pin g else formula_bit x pin h
formula_bit x pin (BoxOut b p) = pin b p

-- what an output pin gives, where value gives the bits of the places that its box reads
abbrev pub pin_bit : List Pins → (ℕ → ℕ → List Bool → Bool) → (ℕ → Bool) → ℕ → ℕ → Bool
pin_bit boxes box value b p = box b p (map value (box_at boxes b).ins)

-- a cell has the bit of its formula where what it reads has
gate_formula : (inputs : ℕ) (boxes : List Pins) (x : List Bool) (box : ℕ → ℕ → List Bool → Bool) (v : ℕ → Bool) (at : ℕ → Formula) (place : ℕ) (c : Cell) → ReadsBefore inputs boxes place c
    → ((k : ℕ) → k < place → v k ≡ formula_bit x (pin_bit boxes box v) (at k)) → gate boxes x box v c ≡ formula_bit x (pin_bit boxes box v) (cell_formula at c)
gate_formula inputs boxes x box v at place (cell.Const b) h same = refl
gate_formula inputs boxes x box v at place (cell.Input i) h same = refl
gate_formula inputs boxes x box v at place (cell.Not a) h same = ap not (same a h)
gate_formula inputs boxes x box v at place (cell.And a b) h same = ap₂ (λ p q. p && q) (same a h.0) (same b h.1)
gate_formula inputs boxes x box v at place (cell.Or a b) h same = ap₂ (λ p q. p || q) (same a h.0) (same b h.1)
gate_formula inputs boxes x box v at place (cell.Xor a b) h same = ap₂ xor (same a h.0) (same b h.1)
gate_formula inputs boxes x box v at place (cell.Mux c t e) h same =
    let p = same c h.0 in let q = same t h.1 in let r = same e h.2 in
    λ i. if p i then q i else r i
gate_formula inputs boxes x box v at place (cell.BoxOut b p) h same = refl

pub value_formula : (net : Netlist) (x : List Bool) (box : ℕ → ℕ → List Bool → Bool) (bits : List Bool) → IsOrdered net → IsValue net x box bits → (bound k : ℕ) → k < bound → k < length net.cells
    → bit_of bits k ≡ formula_bit x (pin_bit net.boxes box (bit_of bits)) (formula_at net.cells k)
value_formula net x box bits ordered value zero k low there = absurd (omega arith)
value_formula net x box bits ordered value (suc bound) k low there =
    value.each k there
    ∙ gate_formula net.inputs net.boxes x box (bit_of bits) (formula_at net.cells) k (cell_at net.cells k) (ordered k there) (λ j below. value_formula net x box bits ordered value bound j (omega arith) (omega arith))
    ∙ ap (formula_bit x (pin_bit net.boxes box (bit_of bits))) (sym (formula_at-cell net ordered k there))

-- two choices of what pins give lead to one bit of a cell's formula, where they do for what the cell reads
pub formula_bit-same : (inputs : ℕ) (boxes : List Pins) (x : List Bool) (pin other : ℕ → ℕ → Bool) (at : ℕ → Formula) (place : ℕ) (c : Cell) → ReadsBefore inputs boxes place c → ((k : ℕ) → k < place → formula_bit x pin (at k) ≡ formula_bit x other (at k))
    → ((b p : ℕ) → All (λ k. k < place) (box_at boxes b).ins → pin b p ≡ other b p) → formula_bit x pin (cell_formula at c) ≡ formula_bit x other (cell_formula at c)
formula_bit-same inputs boxes x pin other at place (cell.Const b) h same pins = refl
formula_bit-same inputs boxes x pin other at place (cell.Input i) h same pins = refl
formula_bit-same inputs boxes x pin other at place (cell.Not a) h same pins = ap not (same a h)
formula_bit-same inputs boxes x pin other at place (cell.And a b) h same pins = ap₂ (λ p q. p && q) (same a h.0) (same b h.1)
formula_bit-same inputs boxes x pin other at place (cell.Or a b) h same pins = ap₂ (λ p q. p || q) (same a h.0) (same b h.1)
formula_bit-same inputs boxes x pin other at place (cell.Xor a b) h same pins = ap₂ xor (same a h.0) (same b h.1)
formula_bit-same inputs boxes x pin other at place (cell.Mux c t e) h same pins =
    let p = same c h.0 in let q = same t h.1 in let r = same e h.2 in
    λ i. if p i then q i else r i
formula_bit-same inputs boxes x pin other at place (cell.BoxOut b p) h same pins = pins b p h

-- three values

-- the value of a formula where boxes are unknown
abbrev pub formula_tern : List Bool → Formula → Option Bool
formula_tern x (Const b) = Some b
formula_tern x (Input i) = Some (bit_of x i)
formula_tern x (Not f) = not3 (formula_tern x f)
formula_tern x (And f g) = and3 (formula_tern x f) (formula_tern x g)
formula_tern x (Or f g) = or3 (formula_tern x f) (formula_tern x g)
formula_tern x (Xor f g) = xor3 (formula_tern x f) (formula_tern x g)
formula_tern x (Mux f g h) = mux3 (formula_tern x f) (formula_tern x g) (formula_tern x h)
formula_tern x (BoxOut b p) = None

gate3_formula : (inputs : ℕ) (boxes : List Pins) (x : List Bool) (v : ℕ → Option Bool) (at : ℕ → Formula) (place : ℕ) (c : Cell) → ReadsBefore inputs boxes place c → ((k : ℕ) → k < place → v k ≡ formula_tern x (at k)) → gate3 x v c ≡ formula_tern x (cell_formula at c)
gate3_formula inputs boxes x v at place (cell.Const b) h same = refl
gate3_formula inputs boxes x v at place (cell.Input i) h same = refl
gate3_formula inputs boxes x v at place (cell.Not a) h same = ap not3 (same a h)
gate3_formula inputs boxes x v at place (cell.And a b) h same = ap₂ and3 (same a h.0) (same b h.1)
gate3_formula inputs boxes x v at place (cell.Or a b) h same = ap₂ or3 (same a h.0) (same b h.1)
gate3_formula inputs boxes x v at place (cell.Xor a b) h same = ap₂ xor3 (same a h.0) (same b h.1)
gate3_formula inputs boxes x v at place (cell.Mux c t e) h same =
    let p = same c h.0 in let q = same t h.1 in let r = same e h.2 in
    λ i. mux3 (p i) (q i) (r i)
gate3_formula inputs boxes x v at place (cell.BoxOut b p) h same = refl

pub tern_formula : (net : Netlist) (x : List Bool) (values : List (Option Bool)) → IsOrdered net → IsTern net x values → (bound k : ℕ) → k < bound → k < length net.cells → tern_of values k ≡ formula_tern x (formula_at net.cells k)
tern_formula net x values ordered known zero k low there = absurd (omega arith)
tern_formula net x values ordered known (suc bound) k low there =
    known.each k there
    ∙ gate3_formula net.inputs net.boxes x (tern_of values) (formula_at net.cells) k (cell_at net.cells k) (ordered k there) (λ j below. tern_formula net x values ordered known bound j (omega arith) (omega arith))
    ∙ ap (formula_tern x) (sym (formula_at-cell net ordered k there))
