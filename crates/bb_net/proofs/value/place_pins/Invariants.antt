use Rattle.std.proofs.Common.{◌≡◌, ◌≢◌, ℕ, ◌<◌, slice_index}
use Rattle.bb_net.specs.Values.{bit_of}
use Rattle.bb_net.proofs.value.place_pins.Given as goal

abbrev pub invariant-loop-p : goal.invariant-loop-p
invariant-loop-p l = record {
  placed : (p : ℕ) → p < l.p → bit_of l.out (slice_index l.outs p) ≡ bit_of l.bits p;
  others : (place : ℕ) → ((p : ℕ) → p < l.p → slice_index l.outs p ≢ place) → bit_of l.out place ≡ bit_of l.initial.out place;
}
