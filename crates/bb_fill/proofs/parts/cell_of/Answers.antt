use Rattle.std.proofs.Common.{◌≡◌, ◌∙◌, ap, sym}
use Rattle.bb_net.specs.declared.cell.Cell.TheVariants.{BoxOut}
use Rattle.bb_net.specs.Netlists.{cell_at}
use Rattle.bb_fill.proofs.BoxPlaces.{box_there}
use Rattle.bb_fill.proofs.parts.cell_of.Goals as goal

pub returns-clause-pin : goal.returns-clause-pin
returns-clause-pin c = λ b p e.
    let net = c.args.flat.now.net in
    let is : cell_at net.cells c.args.number ≡ BoxOut b p = ap (λ l. cell_at l c.args.number) (sym (c.cells.ensures.cells ∙ ap (λ n. n.cells) c.net.ensures.net)) ∙ e in
    let listed = (c.net.ensures.kept.net.listed c.args.number b p c.requires.there is).0 in
    (box_there net.boxes b p listed, listed)
