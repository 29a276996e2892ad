use Rattle.std.proofs.Common.{◌≡◌, ℕ, length}
use Rattle.bb_uniq.specs.Inside.Meaning.{Keeps}
use Rattle.bb_sym.specs.Plain.{Function, table}
use Rattle.bb_sym.specs.Inside.Made.{AreRefs, RepresentAll}
use Rattle.bb_sym.proofs.DifferenceLoop.{AreDifferent}
use Rattle.bb_sym.proofs.differences.differences.Given as goal

abbrev pub invariant-loop-j : goal.invariant-loop-j
invariant-loop-j l =
    let s = l.fn.d.store in
    (length l.refs.items ≡ l.j) × AreRefs l.d.store l.refs.items × Keeps s l.d.store
    × ((f g : ℕ → Function) → RepresentAll s (λ j. table s.vars (f j)) l.fs → RepresentAll s (λ j. table s.vars (g j)) l.gs → AreDifferent s l.d.store f g l.refs.items l.j)
