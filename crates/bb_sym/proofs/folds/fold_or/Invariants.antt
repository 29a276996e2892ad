use Rattle.std.proofs.Common.{ℕ}
use Rattle.bb_uniq.specs.Inside.Nodes.{IsRef}
use Rattle.bb_uniq.specs.Inside.Meaning.{Keeps}
use Rattle.bb_sym.specs.Plain.{Function, table}
use Rattle.bb_sym.specs.Inside.Made.{RepresentAll}
use Rattle.bb_sym.proofs.FoldLoop.{IsFold}
use Rattle.bb_sym.proofs.folds.fold_or.Given as goal

abbrev pub invariant-loop-f : goal.invariant-loop-f
invariant-loop-f l =
    IsRef l.d.store l.any.0 × Keeps l.fn.d.store l.d.store
    × ((f : ℕ → Function) → RepresentAll l.fn.d.store (λ j. table l.fn.d.store.vars (f j)) l.fs → IsFold l.fn.d.store l.d.store f l.any l.f-index)
