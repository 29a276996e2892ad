use Rattle.std.proofs.Common.{map, List}
use Rattle.bb_design.specs.Hierarchy.{Design, Scope}
use Rattle.bb_elab.specs.Inside.Placings.{IsNext}
use Rattle.bb_elab.proofs.ScopePlacing.{IsPlacing}
use Rattle.bb_elab.proofs.scopes.+place_scope.Given as goal

abbrev pub decreases-place_scope : goal.decreases-place_scope
decreases-place_scope l = l.levels

abbrev pub invariant-loop-k : goal.invariant-loop-k
invariant-loop-k l = (d : Design) (s : Scope) (rest : List Scope) → IsNext d (map (λ list. list.items) l.called) l.module_summaries l.fn.placing l.place l.fn.instance l.levels s rest
    → IsPlacing d l.fn.placing l.placing l.place l.fn.instance l.levels s rest l.children.items l.k
