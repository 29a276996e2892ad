-- The formulas of cells that were just added.
use Rattle.std.proofs.Common.{◌≡◌, ◌∙◌, ◌+◌, ◌<◌, ◌≤◌, ℕ, true, false, List, ◌∷◌, ◌++◌, map, length, get_or, drop, sym, ap, subst, arith}
use Rattle.std.specs.Prelude.{All}
use Rattle.std.proofs.lemmas.List.{length-append, drop_more, get_or_append_left}
use Rattle.bb_net.specs.declared.cell.Cell.{Cell}
use Rattle.bb_net.specs.declared.cell.Cell.TheVariants.{Const}
use Rattle.bb_net.specs.Netlists.{Netlist, cell_at}
use Rattle.bb_word.specs.Gates.{Made}
use Rattle.bb_word.specs.Laws.Formulas.{Formula, cell_formula}
use Rattle.bb_word.specs.Laws.Formulas as formula
use Rattle.bb_word.specs.Inside.Adding.{Meets, with_cells, Adds, HasConstants}
use Rattle.bb_word.proofs.AddingLemmas.{meets_new}

pub part_new : (now new : Netlist) (added : List Cell) (part : ℕ → Formula) → new ≡ with_cells now added → Meets new.cells part → (k place : ℕ) → k < length added → place ≡ length now.cells + k → part place ≡ cell_formula part (cell_at added k)
part_new now new added part grown meets k place below at = ap part at ∙ meets_new now.cells added part (subst (λ n. Meets n.cells part) grown meets) k below

pub length_new : (now new : Netlist) (added : List Cell) → new ≡ with_cells now added → length new.cells ≡ length now.cells + length added
length_new now new added grown = ap (λ n. length n.cells) grown ∙ length-append now.cells added

-- the bits from place i on, as formulas
pub parts_more : (part : ℕ → Formula) (bits : List ℕ) (i bit : ℕ) → i < length bits → bit ≡ get_or bits i 0 → map part (drop i bits) ≡ part bit ∷ map part (drop (i + 1) bits)
parts_more part bits i bit below is = ap (map part) (drop_more bits i 0 below ∙ ap (λ b. b ∷ drop (i + 1) bits) (sym is))

pub constants_more : (cells more : List Cell) → HasConstants cells → HasConstants (cells ++ more)
constants_more cells more has = record {
  zero = get_or_append_left cells more (Const false) 0 (omega (arith, has.there)) ∙ has.zero;
  one = get_or_append_left cells more (Const false) 1 (omega (arith, has.there)) ∙ has.one;
  there = omega (arith, has.there, length-append cells more);
}

pub part_zero : (cells : List Cell) (part : ℕ → Formula) → HasConstants cells → Meets cells part → part 0 ≡ formula.Const false
part_zero cells part has meets = meets 0 (omega (arith, has.there)) ∙ ap (cell_formula part) has.zero

pub part_one : (cells : List Cell) (part : ℕ → Formula) → HasConstants cells → Meets cells part → part 1 ≡ formula.Const true
part_one cells part has meets = meets 1 (omega (arith, has.there)) ∙ ap (cell_formula part) has.one

pub Adds-constants : (old now : Netlist) (places : List ℕ) (circuit rest : (ℕ → Formula) → Made Formula) → HasConstants old.cells → Adds old now places circuit rest → HasConstants now.cells
Adds-constants old now places circuit rest has adds = subst (λ n. HasConstants n.cells) (sym adds.grown) (constants_more old.cells adds.more has)

pub below_later : (places : List ℕ) (n m : ℕ) → n ≤ m → All (λ p. p < n) places → All (λ p. p < m) places
below_later places n m less all k d h = omega (arith, all k d h)
