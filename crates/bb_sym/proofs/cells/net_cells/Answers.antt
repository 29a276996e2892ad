use Rattle.std.proofs.Common.{rules, IsErrOf, subst, subst₂, sym, ap, ◌∙◌, ◌≡◌, ℕ, ◌<◌, ◌≤◌, ◌+◌, List, [], length, arith}
use Rattle.bb_net.specs.declared.cell.Cell.{Cell}
use Rattle.bb_net.specs.declared.cell.Cell.TheVariants.{Input, BoxOut}
use Rattle.bb_net.specs.Netlists.{ReadsBefore, cell_at}
use Rattle.bb_uniq.specs.declared.store.Ref.{Ref}
use Rattle.bb_uniq.specs.Inside.Meaning.{truth_of, Adds, IsTooMany}
use Rattle.bb_sym.specs.declared.fault.RungFault.TheVariants.{Nodes}
use Rattle.bb_sym.specs.Inside.Made.{AreRefs, cell_table, ref_at}
use Rattle.bb_sym.proofs.CellTables.{input_variable, pin_variable, reads_more}
use Rattle.bb_sym.proofs.MadeLemmas.{AreRefs-push, keeps_then}
use Rattle.bb_sym.proofs.NetLoop.{CellsMade, next_table, next_refused, next_made, whole_makes}
use Rattle.bb_sym.proofs.cells.net_cells.Goals as goal

pub cell_diagram-requires-clause-input : goal.cell_diagram-requires-clause-input
cell_diagram-requires-clause-input c = λ i e.
    let net = c.args.net.now in
    let here : cell_at net.cells c.loop-cell.cell-index ≡ Input i = ap (λ (cells : List Cell). cell_at cells c.loop-cell.cell-index) (sym c.cells-cells.ensures.cells) ∙ e in
    let v = input_variable net c.cells-cells.ensures.kept c.args.d.now.store.vars c.args.first c.args.starts.now c.requires c.loop-cell.cell-index i (omega (arith, c.loop-cell-test.true, ap length c.cells-cells.ensures.cells)) here in
    omega (arith, v, c.loop-cell.invariant.2.vars)

pub cell_diagram-requires-clause-pin : goal.cell_diagram-requires-clause-pin
cell_diagram-requires-clause-pin c = λ b p e.
    let net = c.args.net.now in
    let here : cell_at net.cells c.loop-cell.cell-index ≡ BoxOut b p = ap (λ (cells : List Cell). cell_at cells c.loop-cell.cell-index) (sym c.cells-cells.ensures.cells) ∙ e in
    let v = pin_variable net c.cells-cells.ensures.kept c.args.d.now.store.vars c.args.first c.args.starts.now c.requires c.loop-cell.cell-index b p (omega (arith, c.loop-cell-test.true, ap length c.cells-cells.ensures.cells)) here in (
      v.0,
      omega (arith, v.1, c.loop-cell.invariant.2.vars),
    )

pub cell_diagram-requires-clause-made : goal.cell_diagram-requires-clause-made
cell_diagram-requires-clause-made c = subst (AreRefs c.loop-cell.d.store) (sym c.deref.ensures.value) c.loop-cell.invariant.1

pub returns-in_err-r-clause-nodes : goal.returns-in_err-r-clause-nodes
returns-in_err-r-clause-nodes c =
    let old = c.loop-cell.d.store in
    let net = c.args.net.now in
    let i = c.loop-cell.cell-index in
    let reported : IsErrOf c.from_residual-in_err-r.result Nodes → IsTooMany old (cell_table old.vars c.args.first c.args.starts.now (λ place. truth_of old (ref_at c.deref.result.now place).0) (cell_at c.cells-cells.result.now i)) = search rules in
    λ r reads full. next_refused c.value_exists.ensures c.args.d.now.store old net c.cells-cells.ensures.kept c.args.first c.args.starts.now c.requires c.loop-cell.made.items i (omega (arith, c.loop-cell-test.true, ap length c.cells-cells.ensures.cells)) c.loop-cell.invariant.0 r reads (c.loop-cell.invariant.3 r reads)
    (subst₂ (λ (cells : List Cell) (ms : List Ref). IsTooMany old (cell_table old.vars c.args.first c.args.starts.now (λ place. truth_of old (ref_at ms place).0) (cell_at cells i))) c.cells-cells.ensures.cells c.deref.ensures.value (reported full))

pub loop-cell-preserved : goal.loop-cell-preserved
loop-cell-preserved c =
    let s = c.args.d.now.store in
    let old = c.loop-cell.d.store in
    let new = c.cell_diagram.new.d.store in
    let net = c.args.net.now in
    let i = c.loop-cell.cell-index in
    let made = c.loop-cell.made.items in
    let q = c.in_ok-r.r in
    let added : Adds old new (next_table old c.args.first c.args.starts.now made net i) q.0 =
    subst₂ (λ (cells : List Cell) (ms : List Ref). Adds old new (cell_table old.vars c.args.first c.args.starts.now (λ place. truth_of old (ref_at ms place).0) (cell_at cells i)) q.0) c.cells-cells.ensures.cells c.deref.ensures.value c.in_ok-r.ensures.ok in
    let there : i < length net.cells = omega (arith, c.loop-cell-test.true, ap length c.cells-cells.ensures.cells) in (
      (let count : length c.push.new.self.items ≡ i + 1 = search rules in count),
      subst (AreRefs new) (sym c.in_ok-push.ensures.items) (AreRefs-push old new made q added.kept added.ref c.loop-cell.invariant.1),
      keeps_then s old new c.loop-cell.invariant.2 added.kept,
      λ r reads. subst (λ (ms : List Ref). CellsMade s new net ms (i + 1) r) (sym c.in_ok-push.ensures.items)
          (next_made c.value_exists.ensures s old net c.cells-cells.ensures.kept c.args.first c.args.starts.now c.requires made i there c.loop-cell.invariant.0 r reads (c.loop-cell.invariant.3 r reads) new q added),
    )

pub returns-clause-count : goal.returns-clause-count
returns-clause-count c = let count : c.loop-cell.cell-index ≡ length c.args.net.now.cells = search rules in c.loop-cell.invariant.0 ∙ count

pub returns-clause-cells : goal.returns-clause-cells
returns-clause-cells c = λ r reads. (c.loop-cell.invariant.3 r reads).0

pub returns-clause-makes : goal.returns-clause-makes
returns-clause-makes c = λ r reads.
    let count : c.loop-cell.cell-index ≡ length c.args.net.now.cells = search rules in
    whole_makes c.args.d.now.store c.loop-cell.d.store c.args.net.now c.loop-cell.made.items c.loop-cell.cell-index r count (c.loop-cell.invariant.3 r reads)

pub cell_diagram-requires-clause-reads : goal.cell_diagram-requires-clause-reads
cell_diagram-requires-clause-reads c =
    let net = c.args.net.now in
    let i = c.loop-cell.cell-index in
    let vars = c.loop-cell.d.store.vars in
    let there : i < length net.cells = omega (arith, c.loop-cell-test.true, ap length c.cells-cells.ensures.cells) in
    let enough : net.inputs ≤ vars = omega (arith, c.requires.inputs, c.loop-cell.invariant.2.vars) in
    let places : length c.deref.result.now ≡ i = ap length c.deref.ensures.value ∙ c.loop-cell.invariant.0 in
    subst₂ (λ (m : ℕ) (cells : List Cell). ReadsBefore vars [] m (cell_at cells i)) (sym places) (sym c.cells-cells.ensures.cells)
    (reads_more net.inputs vars i net.boxes (cell_at net.cells i) enough (c.cells-cells.ensures.kept.ordered i there))
