use Rattle.std.proofs.Common.{◌+◌, ◌*◌, ◌<◌, ◌∷◌, [], ℕ, List, length, sym, ap, ◌∙◌, subst, arith}
use Rattle.std.specs.Prelude.{slice_index}
use Rattle.std.proofs.lemmas.List.{length-append}
use Rattle.bb_net.specs.declared.cell.Cell.{Cell}
use Rattle.bb_net.specs.Netlists.{cell_at}
use Rattle.bb_strash.specs.Inside.Parts.{AreCut, IsMovedGate}
use Rattle.bb_strash.proofs.Cut.{cut_next}
use Rattle.bb_strash.proofs.GateBits.{at_most, then_more}
use Rattle.bb_strash.proofs.cutting.add_gates.Goals as goal

pub loop-k-preserved : goal.loop-k-preserved
loop-k-preserved c =
    let k = c.loop-k.k in
    let net = c.args.net.now in
    let known = c.args.cells.now in
    let old = c.loop-k.hashed in
    let new = c.add.new.self in
    let places = c.loop-k.places.items in
    let moved : (slice_index known k < length net.cells) × IsMovedGate known places (cell_at net.cells (slice_index known k)) c.in-Some.gate =
    subst (λ (l : List ℕ). (slice_index known k < length net.cells) × IsMovedGate known l (cell_at net.cells (slice_index known k)) c.in-Some.gate) c.deref.ensures.value
    (subst (λ (cs : List Cell). (slice_index known k < length cs) × IsMovedGate known c.deref.result.now (cell_at cs (slice_index known k)) c.in-Some.gate) c.cells.ensures.cells c.in-Some.ensures) in
    let longer = ap length c.in_ok-push.ensures.items ∙ length-append places (c.in_ok-place.place ∷ []) in (
      subst (AreCut net c.args.leaves.now known new) (sym c.in_ok-push.ensures.items)
          (cut_next c.bits.ensures.gates c.bits.ensures.stay net c.cells.ensures.kept c.requires.none c.args.leaves.now known old new 5 k c.in_ok-place.place places c.in-Some.gate c.loop-k.invariant.2 c.in_ok-place.ensures.extends c.loop-k.invariant.0 moved c.in_ok-place.ensures.gives),
      at_most c.args.hashed.now new (5 * k + 5) (5 * (k + 1)) (omega arith) (then_more c.args.hashed.now old new (5 * k) 5 c.loop-k.invariant.1 c.in_ok-place.ensures.extends),
      omega (arith, longer, c.loop-k.invariant.2),
      omega (arith, c.loop-k-test.true),
    )
