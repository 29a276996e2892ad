use Rattle.std.proofs.Common.{◌≡◌, ◌≤◌, ◌++◌}
use Rattle.std.specs.Prelude.{replicate, vec_capacity}
use Rattle.bb_fill.proofs.text_buffer.append_stem.Given as goal

abbrev pub invariant-loop : goal.invariant-loop
invariant-loop l = (l.text.items ≡ l.initial.text.items ++ replicate l.counter 95) × (vec_capacity l.initial.text ≤ vec_capacity l.text)
