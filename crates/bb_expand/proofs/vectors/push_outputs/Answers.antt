use Rattle.std.proofs.Common.{◌+◌, [], ◌∷◌, ◌++◌, get_or, ap, ◌∙◌}
use Rattle.bb_net.specs.Values.{bit_of}
use Rattle.bb_cnf.specs.Clauses.{lists_of}
use Rattle.bb_expand.specs.Expansions.{having}
use Rattle.bb_expand.proofs.Grows.{grown_by_one}
use Rattle.bb_expand.proofs.vectors.push_outputs.Goals as goal

pub loop-j-preserved : goal.loop-j-preserved
loop-j-preserved c =
    grown_by_one (λ j. having (c.args.base + get_or c.args.outs.now j 0 + 1) (bit_of c.args.bits.now (get_or c.args.wanted.now j 0)) ∷ [])
    c.loop-j.j (lists_of c.args.clauses.now.items) (lists_of c.loop-j.clauses.items) (lists_of c.push.new.clauses.items) c.loop-j.invariant
    (c.in_ok-push.ensures ∙ ap (λ l. lists_of c.loop-j.clauses.items ++ (l ∷ []) ∷ []) c.having.ensures)
