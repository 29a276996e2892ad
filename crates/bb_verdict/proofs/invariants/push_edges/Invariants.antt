use Rattle.std.proofs.Common.{◌≡◌, ◌≤◌, ◌++◌, List, ℕ, length, take}
use Rattle.bb_verdict.specs.Inside.BrokenTexts.{edges_text}
use Rattle.bb_verdict.proofs.invariants.push_edges.Given as goal

abbrev pub invariant-loop-i : goal.invariant-loop-i
invariant-loop-i l =
    (◌≡◌ {A = List ℕ} l.text.items (l.initial.text.items ++ edges_text l.spec l.x 0 (take l.i l.spec.ins))) × (l.name-items ≡ l.spec.ins) × (l.i-end ≡ length l.spec.ins) × (l.i ≤ length l.spec.ins)
