use Rattle.std.proofs.Common.{◌≡◌, ◌<◌, ◌↔◌, ◌∙◌, ℕ, true, All, Contains, List, length, take, ap, subst, sym, arith, length-take, get_or-take}
use Rattle.bb_net.specs.Netlists.{Netlist, Pins, box_at}
use Rattle.bb_nest.specs.Nested.{pin_cells}
use Rattle.bb_nest.specs.Inside.Readers.{HoldBoxes}
use Rattle.bb_nest.proofs.StageRows.{no_pins}
use Rattle.bb_nest.proofs.cells.nested.Goals as goal

pub returns-then-all_differ : goal.returns-then-all_differ
returns-then-all_differ c =
    let boxes = c.args.pair.now.imp.boxes in
    let same : c.boxes.result.now ≡ boxes = c.boxes.ensures.boxes ∙ ap (λ (net : Netlist). net.boxes) c.imp.ensures.imp in
    let held = subst (λ (bs : List Pins). (c.hold_earlier.result ≡ true) ↔ ((b : ℕ) → b < length bs → HoldBoxes (box_at bs b).ins (take b bs))) same c.hold_earlier.ensures in (
      λ e. record {
        apart = c.all_differ.ensures.0 c.if-all_differ.true;
        seen = λ a b less l. subst (λ (pins : Pins). All (Contains (box_at boxes b).ins) (pin_cells pins)) (get_or-take b boxes a no_pins less) (held.0 e b l a (omega (arith, less, l, length-take b boxes)));
      },
      λ nested. held.1 (λ b l a less.
          let low : a < b = omega (arith, less, length-take b boxes) in
          subst (λ (pins : Pins). All (Contains (box_at boxes b).ins) (pin_cells pins)) (sym (get_or-take b boxes a no_pins low)) (nested.seen a b low l)),
    )
