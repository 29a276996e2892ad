use Rattle.std.proofs.Common.{◌≡◌, ◌<◌, ℕ}
use Rattle.bb_uniq.specs.Inside.Meaning.{truth_of}
use Rattle.bb_sym.specs.Inside.Made.{ref_at, IsNowhereTrue}
use Rattle.bb_sym.proofs.searching.first_true.Given as goal

abbrev pub invariant-loop-j : goal.invariant-loop-j
invariant-loop-j l = (l.point ≡ l.fn.point) × ((i : ℕ) → i < l.j → IsNowhereTrue l.d.store.vars (truth_of l.d.store (ref_at l.fs i).0))
