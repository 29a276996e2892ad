use Rattle.std.proofs.Common.{◌≡◌, ◌⊎◌, ℕ, true}
use Rattle.std.specs.Prelude.{Contains}
use Rattle.std.specs.BinaryHeap.{heap_items, heap_len}
use Rattle.bb_net.specs.Values.{bit_of}
use Rattle.bb_net.specs.Inside.Placings.{boxes_of, IsLeastFirst}
use Rattle.bb_net.proofs.ordering.numbering.next_ready.Given as goal

abbrev pub invariant-loop-b : goal.invariant-loop-b
invariant-loop-b l = record {
  order : IsLeastFirst (heap_items l.ready);
  kept : (b : ℕ) → Contains (boxes_of (heap_items l.ready)) b → Contains (boxes_of (heap_items l.initial.ready)) b;
  dropped : (b : ℕ) → Contains (boxes_of (heap_items l.initial.ready)) b → Contains (boxes_of (heap_items l.ready)) b ⊎ (bit_of l.numbered b ≡ true);
}

abbrev pub decreases-loop-b : goal.decreases-loop-b
decreases-loop-b l = heap_len l.ready
