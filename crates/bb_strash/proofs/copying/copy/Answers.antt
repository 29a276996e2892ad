use Rattle.std.proofs.Common.{◌≡◌, ◌+◌, ◌*◌, ◌<◌, ℕ, List, length, sym, ap, ap₂, ◌∙◌, subst, arith}
use Rattle.std.specs.Prelude.{slice_index}
use Rattle.bb_net.specs.declared.cell.Cell.{Cell}
use Rattle.bb_net.specs.Netlists.{cell_at}
use Rattle.bb_subst.specs.Embeddings.{renumbered}
use Rattle.bb_strash.specs.Inside.Copies.{AreCopied}
use Rattle.bb_strash.specs.Inside.Extensions.{bit, gate_bit}
use Rattle.bb_strash.proofs.BitLaws.{no_pin}
use Rattle.bb_strash.proofs.Copied.{copied_next, moved_pin}
use Rattle.bb_strash.proofs.GateBits.{at_most, gives_same, then_more}
use Rattle.bb_strash.proofs.copying.copy.Goals as goal

pub add-requires-clause-gate : goal.add-requires-clause-gate
add-requires-clause-gate g c = λ b p is.
    let k = c.loop-number.number in
    let cells = c.cells-cells.ensures.cells in
    let lt : k < length c.args.source.now.cells = omega (arith, c.loop-number-test.true, ap length cells) in
    moved_pin (slice_index c.deref.result.now) (cell_at c.cells-cells.result.now k)
    (λ d q e. no_pin c.args.source.now c.cells-cells.ensures.kept c.requires.source k d q lt (ap (λ l. cell_at l k) (sym cells) ∙ e)) b p (sym c.moved.ensures.cell ∙ is)

pub loop-number-preserved : goal.loop-number-preserved
loop-number-preserved g c =
    let k = c.loop-number.number in
    let source = c.args.source.now in
    let old = c.loop-number.hashed in
    let new = c.merge.new.hashed in
    let cells = c.cells-cells.ensures.cells in
    let lt : k < length source.cells = omega (arith, c.loop-number-test.true, ap length cells) in
    let both = then_more old c.add.new.self new 5 10 c.in_ok-copied.ensures.extends c.in_ok-place.ensures.extends in
    let is : c.moved.result ≡ renumbered (slice_index c.loop-number.places.items) (cell_at source.cells k) =
    c.moved.ensures.cell ∙ ap₂ (λ (l : List ℕ) (cs : List Cell). renumbered (slice_index l) (cell_at cs k)) c.deref.ensures.value cells in
    let gives = gives_same new c.in_ok-place.place _ (λ x. gate_bit x (bit old x) (renumbered (slice_index c.loop-number.places.items) (cell_at source.cells k)))
    (λ x. c.in_ok-copied.ensures.gives.same x ∙ ap (gate_bit x (bit old x)) is) c.in_ok-place.ensures.gives in (
      subst (AreCopied source (k + 1) new) (sym c.in_ok-push.ensures.items)
          (copied_next c.bits.ensures.gates c.bits.ensures.stay source c.cells-cells.ensures.kept c.requires.source old new 15 k c.in_ok-place.place c.loop-number.places.items lt both c.loop-number.invariant.0 gives),
      at_most c.args.hashed.now new (15 * k + 15) (15 * (k + 1)) (omega arith) (then_more c.args.hashed.now old new (15 * k) 15 c.loop-number.invariant.1 both),
    )
