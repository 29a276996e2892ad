-- Boxes whose pins are named are there.
use Rattle.std.proofs.Common.{◌≡◌, ℕ, ◌<◌, List, [], length, ap, inl, inr, arith}
use Rattle.std.proofs.lemmas.Bool.{cases_lt}
use Rattle.std.proofs.lemmas.List.{get_or_past}
use Rattle.bb_net.specs.declared.cell.Cell.TheVariants.{BoxOut}
use Rattle.bb_net.specs.Netlists.{Netlist, Pins, IsNetlist, cell_at, box_at}

pub box_there : (boxes : List Pins) (b p : ℕ) → p < length (box_at boxes b).outs → b < length boxes
box_there boxes b p h = elim (cases_lt b (length boxes)) [
  | inl there ↦ there
  | inr past ↦ absurd (let none = ap (λ (pins : Pins). length pins.outs) (get_or_past boxes b (record { ins = []; outs = [] }) past) in omega (arith, h, none))
]

pub cell_has_box : (net : Netlist) → IsNetlist net → (place b p : ℕ) → place < length net.cells → cell_at net.cells place ≡ BoxOut b p → b < length net.boxes
cell_has_box net kept place b p h is = box_there net.boxes b p (kept.listed place b p h is).0
