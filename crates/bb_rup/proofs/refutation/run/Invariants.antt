use Rattle.std.proofs.Common.{◌≡◌, ◌++◌, [], take, length}
use Rattle.bb_cnf.specs.Clauses.{lists_of}
use Rattle.bb_rup.specs.Additions.{EachFollows}
use Rattle.bb_rup.specs.Inside.Trails.{IsTrail, IsReached, marked_by}
use Rattle.bb_rup.proofs.refutation.run.Given as goal

abbrev pub invariant-loop-number : goal.invariant-loop-number
invariant-loop-number l = record {
  each : EachFollows (lists_of l.given) (take l.number (lists_of l.adds));
  trail : IsTrail l.trail;
  reached : IsReached (lists_of l.given ++ take l.number (lists_of l.adds)) [] (marked_by l.trail);
  room : length l.trail.marks.items ≡ length l.initial.trail.marks.items;
}
