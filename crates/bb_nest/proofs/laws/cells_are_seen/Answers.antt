use Rattle.std.proofs.Common.{refl}
use Rattle.std.proofs.lemmas.List.Elements.{All-weaker}
use Rattle.bb_nest.specs.Nested.{Sees, pin_cells}
use Rattle.std.proofs.Common.{Contains}
use Rattle.bb_net.specs.Netlists.{box_at}
use Rattle.bb_nest.proofs.laws.cells_are_seen.Goals as goal

pub returns : goal.returns
returns c = λ net kinds cells. record {
  apart = cells.apart;
  seen = λ a b less there.
      let box = box_at net.boxes b in
      All-weaker (Contains box.ins) (Sees net box) (λ cell has. (cell, has, λ x z vector outs. refl)) (pin_cells (box_at net.boxes a)) (cells.seen a b less there);
}
