use Rattle.std.proofs.Common.{◌≡◌, ◌+◌, ℕ, map}
use Rattle.std.specs.List.{range_with_len}
use Rattle.bb_tern.specs.Patterns.{state_after, drawn_bit}
use Rattle.bb_tern.proofs.drawing.draw.Given as goal

abbrev pub invariant-loop : goal.invariant-loop
invariant-loop l = (seed n : ℕ) → l.fn.state ≡ state_after seed n → (l.pattern.items ≡ map (drawn_bit seed) (range_with_len n l.counter)) × (l.state ≡ state_after seed (n + l.counter))
