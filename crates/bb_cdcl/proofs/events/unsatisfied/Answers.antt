use Rattle.std.proofs.Common.{subst, All}
use Rattle.std.proofs.lemmas.List.{take_all}
use Rattle.std.proofs.lemmas.List.Elements.{All-map, All-more}
use Rattle.smallvec.specs.SmallVec.{SmallVec}
use Rattle.bb_cnf.specs.declared.clauses.Lit.{Lit}
use Rattle.bb_cdcl.specs.Inside.Events.{IsSatisfied}
use Rattle.bb_cdcl.proofs.Happens.{satisfied_at, member_in_range}
use Rattle.bb_cdcl.proofs.events.unsatisfied.Goals as goal

pub returns-in-False-clause-comes : goal.returns-in-False-clause-comes
returns-in-False-clause-comes c = record { clause = c.clause_at.result.now; occurs = c.clause_at.ensures; is_false = c.in-False.ensures }

pub returns-in-Unit-clause-comes : goal.returns-in-Unit-clause-comes
returns-in-Unit-clause-comes c = record {
  clause = c.clause_at.result.now;
  occurs = c.clause_at.ensures;
  is_unit = c.in-Unit.ensures;
  in_range = member_in_range _ _ _ _ _ c.clause_at.ensures c.requires c.in-Unit.ensures.own;
}

pub returns-in-Open-clause-comes : goal.returns-in-Open-clause-comes
returns-in-Open-clause-comes c = (c.in-Open.ensures.free, member_in_range _ _ _ _ _ c.clause_at.ensures c.requires c.in-Open.ensures.own)

pub loop-number-preserved : goal.loop-number-preserved
loop-number-preserved c =
    let d : SmallVec Lit = record { items = c.clause_at.result.now; capacity = 0 } in
    All-more (λ clause. IsSatisfied c.args.values.now clause.items) c.args.clauses.now c.loop-number.number d c.loop-number-test.true c.loop-number.invariant
    (satisfied_at c.args.clauses.now c.args.values.now c.loop-number.number d c.clause_at.result.now c.clause_at.ensures c.in-True.ensures)

pub returns-clause-quiet : goal.returns-clause-quiet
returns-clause-quiet c =
    All-map (IsSatisfied c.args.values.now) (λ clause. clause.items) c.args.clauses.now
    (subst (All (λ clause. IsSatisfied c.args.values.now clause.items)) (take_all _ _ c.loop-number-test.false) c.loop-number.invariant)
