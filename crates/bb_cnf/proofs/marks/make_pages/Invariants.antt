use Rattle.std.proofs.Common.{◌≡◌, ◌+◌, ◌-◌, ℕ, vec_len}
use Rattle.bb_cnf.specs.Inside.Marks.{mark_at}
use Rattle.bb_cnf.proofs.marks.make_pages.Given as goal

abbrev pub invariant-loop-alloc : goal.invariant-loop-alloc
invariant-loop-alloc l = (x : ℕ) → mark_at l.pages.items x ≡ mark_at l.initial.pages.items x

abbrev pub decreases-loop-alloc : goal.decreases-loop-alloc
decreases-loop-alloc l = l.place + 1 - vec_len l.pages
