use Rattle.std.proofs.Common.{◌≡◌, ◌+◌, ◌<◌, ◌≤◌, ◌⊎◌, ℕ, List, length, map, sym, ap, ◌∙◌, subst, arith}
use Rattle.std.specs.Prelude.{slice_index}
use Rattle.bb_net.specs.declared.cell.Cell.{Cell}
use Rattle.bb_net.specs.declared.cell.Cell.TheVariants.{BoxOut}
use Rattle.bb_net.specs.Kinds.{per_box}
use Rattle.bb_net.specs.Netlists.{Pins, box_at, cell_at}
use Rattle.bb_net.specs.Values.{table_at}
use Rattle.bb_subst.specs.Embeddings.{OccursAt}
use Rattle.bb_bits.specs.Tables.{column}
use Rattle.bb_subst.specs.Inside.Filling.{GrowsBy, IsFilledUpTo, cost}
use Rattle.bb_subst.specs.Trees.{IsInTree, IsTree}
use Rattle.bb_subst.proofs.FilledNets.{box_there}
use Rattle.bb_subst.proofs.FillingSteps.{filled_next, first_long, room_here}
use Rattle.bb_subst.proofs.filling.add_cells.Goals as goal

pub loop-k-init : goal.loop-k-init
loop-k-init c = (
  subst (λ n. IsFilledUpTo c.args.old.now (per_box c.args.kinds.now c.args.tables.now) (n + 2) c.args.new.now c.args.places.now.items) (sym c.inputs.ensures.inputs) c.requires.begun,
  ap length c.cells-k-end.ensures.cells,
  omega (arith, first_long c.args.old.now c.inputs.ensures.kept, c.inputs.ensures.inputs),
)

pub add_cell-requires-clause-pin : goal.add_cell-requires-clause-pin
add_cell-requires-clause-pin c = λ b p e.
    let old = c.args.old.now in
    let is : cell_at old.cells c.loop-k.k ≡ BoxOut b p = ap (λ l. cell_at l c.loop-k.k) (sym c.cells.ensures.cells) ∙ e in
    let listed = (c.inputs.ensures.kept.listed c.loop-k.k b p (omega (arith, c.loop-k-test.true, c.loop-k.invariant.1)) is).0 in
    subst (λ (l : List Pins). (b < length l) × (p < length (box_at l b).outs)) (sym c.boxes.ensures.boxes) (box_there old.boxes b p listed, listed)

pub add_cell-requires-clause-room : goal.add_cell-requires-clause-room
add_cell-requires-clause-room c =
    let old = c.args.old.now in
    let room = room_here old c.loop-k.k (length c.loop-k.new.cells) (omega (arith, c.loop-k-test.true, c.loop-k.invariant.1)) c.loop-k.invariant.0.few c.requires.room in
    subst (λ (b : List Pins). length c.loop-k.new.cells + cost b (cell_at c.cells.result.now c.loop-k.k) < 4294967296) (sym c.boxes.ensures.boxes)
    (subst (λ (l : List Cell). length c.loop-k.new.cells + cost old.boxes (cell_at l c.loop-k.k) < 4294967296) (sym c.cells.ensures.cells) room)

pub loop-k-preserved : goal.loop-k-preserved
loop-k-preserved c =
    let old = c.args.old.now in
    let k = c.loop-k.k in
    let more = c.add_cell.new.net in
    let lt : k < length old.cells = omega (arith, c.loop-k-test.true, c.loop-k.invariant.1) in
    let grows : GrowsBy c.loop-k.new more (cost old.boxes (cell_at old.cells k)) =
    subst (λ (b : List Pins). GrowsBy c.loop-k.new more (cost b (cell_at old.cells k))) c.boxes.ensures.boxes
    (subst (λ (l : List Cell). GrowsBy c.loop-k.new more (cost c.boxes.result.now (cell_at l k))) c.cells.ensures.cells c.in_ok-place.ensures.grows) in
    let occurs : OccursAt more.cells (slice_index c.loop-k.places.items) (cell_at old.cells k) c.in_ok-place.place =
    subst (λ (l : List ℕ). OccursAt more.cells (slice_index l) (cell_at old.cells k) c.in_ok-place.place) c.deref.ensures.value
    (subst (λ (l : List Cell). OccursAt more.cells (slice_index c.deref.result.now) (cell_at l k) c.in_ok-place.place) c.cells.ensures.cells c.in_ok-place.ensures.occurs) in
    let tree : (b p : ℕ) → cell_at old.cells k ≡ BoxOut b p → IsTree more.cells (map (slice_index c.loop-k.places.items) (box_at old.boxes b).ins) (column (table_at (per_box c.args.kinds.now c.args.tables.now) b) p) c.in_ok-place.place = λ b p is.
    subst (λ (l : List ℕ). IsTree more.cells (map (slice_index l) (box_at old.boxes b).ins) (column (table_at (per_box c.args.kinds.now c.args.tables.now) b) p) c.in_ok-place.place) c.deref.ensures.value
    (subst (λ (l : List Pins). IsTree more.cells (map (slice_index c.deref.result.now) (box_at l b).ins) (column (table_at (per_box c.args.kinds.now c.args.tables.now) b) p) c.in_ok-place.place) c.boxes.ensures.boxes
    (c.in_ok-place.ensures.tree b p (ap (λ l. cell_at l k) c.cells.ensures.cells ∙ is))) in
    let only : (q : ℕ) → length c.loop-k.new.cells ≤ q → q < length more.cells
    → (q ≡ c.in_ok-place.place) ⊎ ((b p : ℕ) × (cell_at old.cells k ≡ BoxOut b p) × IsInTree more.cells (map (slice_index c.loop-k.places.items) (box_at old.boxes b).ins) c.in_ok-place.place q) = λ q past h.
    subst (λ (l : List ℕ). (q ≡ c.in_ok-place.place) ⊎ ((b p : ℕ) × (cell_at old.cells k ≡ BoxOut b p) × IsInTree more.cells (map (slice_index l) (box_at old.boxes b).ins) c.in_ok-place.place q)) c.deref.ensures.value
    (subst (λ (l : List Cell). (q ≡ c.in_ok-place.place) ⊎ ((b p : ℕ) × (cell_at l k ≡ BoxOut b p) × IsInTree more.cells (map (slice_index c.deref.result.now) (box_at old.boxes b).ins) c.in_ok-place.place q)) c.cells.ensures.cells
    (subst (λ (l : List Pins). (q ≡ c.in_ok-place.place) ⊎ ((b p : ℕ) × (cell_at c.cells.result.now k ≡ BoxOut b p) × IsInTree more.cells (map (slice_index c.deref.result.now) (box_at l b).ins) c.in_ok-place.place q)) c.boxes.ensures.boxes
    (c.in_ok-place.ensures.only q past h))) in (
      subst (IsFilledUpTo old (per_box c.args.kinds.now c.args.tables.now) (k + 1) more) (sym c.in_ok-push.ensures.items)
          (filled_next old c.inputs.ensures.kept (per_box c.args.kinds.now c.args.tables.now) k c.loop-k.new more c.loop-k.places.items c.in_ok-place.place lt c.loop-k.invariant.0 grows c.in_ok-place.ensures.there occurs tree only),
      c.loop-k.invariant.1,
      omega (arith, lt),
    )

pub returns : goal.returns
returns c = record {
  filled = subst (λ n. IsFilledUpTo c.args.old.now (per_box c.args.kinds.now c.args.tables.now) n c.loop-k.new c.loop-k.places.items)
      (omega (arith, c.loop-k-test.false, c.loop-k.invariant.1, c.loop-k.invariant.2)) c.loop-k.invariant.0;
}
