use Rattle.std.proofs.Common.{◌<◌, List, ℕ, length, sym, ap, ◌∙◌, subst₂}
use Rattle.std.specs.Prelude.{All}
use Rattle.bb_net.specs.Netlists.{Netlist}
use Rattle.bb_input.specs.InputFunctions.{pin_places}
use Rattle.bb_input.proofs.PinLemmas.{pins_there}
use Rattle.bb_input.proofs.staging.cells_at_pins.Goals as goal

pub picked-requires : goal.picked-requires
picked-requires c =
    let imp = c.args.pair.now.imp in
    let places = c.deref-2.ensures.value ∙ (c.in_ok-places.ensures ∙ ap pin_places (c.boxes.ensures.boxes ∙ ap (λ (net : Netlist). net.boxes) c.imp.ensures.imp)) in
    let refs = ap length c.deref.ensures.value ∙ c.requires in
    subst₂ (λ n (ps : List ℕ). All (λ place. place < n) ps) (sym refs) (sym places) (pins_there imp c.imp.ensures.kept.imp)
