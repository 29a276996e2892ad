use Rattle.std.proofs.Common.{rules, IsErrOf, subst, sym, ap, ◌∙◌, ◌≡◌, ◌+◌, List, [], ◌∷◌, ◌++◌, length, flat_map}
use Rattle.std.specs.List.{range_with_len}
use Rattle.bb_net.specs.declared.cell.Cell.{Cell}
use Rattle.bb_net.specs.Netlists.{cell_at}
use Rattle.bb_sym.specs.declared.fault.RungFault.TheVariants.{Nodes}
use Rattle.bb_sym.specs.declared.known_gates.DualRail.{DualRail}
use Rattle.bb_sym.specs.Functions.{known_tables}
use Rattle.bb_sym.specs.Inside.Made.{Makes, AreTooMany}
use Rattle.bb_sym.specs.Inside.Rails.{HaveRails, HaveAllRails, rails_at, cell_rails, tables_made, known_rails}
use Rattle.bb_sym.proofs.KnownLoop.{known_parts, known_refused, known_made, known_next}
use Rattle.bb_sym.proofs.known_cells.known_cells.Goals as goal

pub returns-in_err-known-clause-nodes : goal.returns-in_err-known-clause-nodes
returns-in_err-known-clause-nodes c =
    let m = (known_parts c.args.d.now.store c.loop-cell.d.store c.args.net.now c.loop-cell.cell-index c.cells-cells.result.now c.loop-cell.made.items c.deref.result.now
    c.cells-cells.ensures.kept c.requires.vars c.cells-cells.ensures.cells c.loop-cell-test.true c.deref.ensures.value c.loop-cell.invariant) in
    let old = c.loop-cell.d.store in
    let at = rails_at old c.deref.result.now in
    let reported : IsErrOf c.from_residual-in_err-known.result Nodes → AreTooMany old (tables_made old.vars at (cell_at c.cells-cells.result.now c.loop-cell.cell-index)) = search rules in
    λ full. known_refused c.args.d.now.store old c.args.net.now c.deref.result.now c.loop-cell.cell-index m
    (subst (λ (cells : List Cell). AreTooMany old (tables_made old.vars at (cell_at cells c.loop-cell.cell-index))) c.cells-cells.ensures.cells (reported full))

pub loop-cell-preserved : goal.loop-cell-preserved
loop-cell-preserved c =
    let m = (known_parts c.args.d.now.store c.loop-cell.d.store c.args.net.now c.loop-cell.cell-index c.cells-cells.result.now c.loop-cell.made.items c.deref.result.now
    c.cells-cells.ensures.kept c.requires.vars c.cells-cells.ensures.cells c.loop-cell-test.true c.deref.ensures.value c.loop-cell.invariant) in
    let first = c.args.d.now.store in
    let old = c.loop-cell.d.store in
    let new = c.known_cell.new.d.store in
    let net = c.args.net.now in
    let i = c.loop-cell.cell-index in
    let read = c.deref.result.now in
    let at = rails_at old read in
    let known = c.in_ok-known.known in
    let made = subst (λ (cells : List Cell). Makes old new (tables_made old.vars at (cell_at cells i))) c.cells-cells.ensures.cells c.in_ok-known.ensures.makes in
    let occur = subst (λ (cells : List Cell). HaveRails new (cell_rails old.vars at (cell_at cells i)) known) c.cells-cells.ensures.cells c.in_ok-known.ensures.rails in
    let pushed : read ++ known ∷ [] ≡ c.push.new.self.items = ap (λ (rs : List DualRail). rs ++ known ∷ []) c.deref.ensures.value ∙ sym c.in_ok-push.ensures.items in (
      (let count : length c.push.new.self.items ≡ i + 1 = search rules in count),
      subst (HaveAllRails new (known_rails net)) pushed (known_next first old net read i m new made c.tern_exists.ensures known occur),
      known_made first old net read i m new made,
    )

pub returns-clause-makes : goal.returns-clause-makes
returns-clause-makes c =
    let count : c.loop-cell.cell-index ≡ length c.args.net.now.cells = search rules in
    subst (λ i. Makes c.args.d.now.store c.loop-cell.d.store (flat_map (known_tables c.args.net.now) (range_with_len 0 i))) count c.loop-cell.invariant.2
