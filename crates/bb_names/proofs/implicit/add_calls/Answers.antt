use Rattle.bb_ast.specs.Inside.Views.{call_view}
use Rattle.bb_names.specs.Declarations.{names_in_conns}
use Rattle.bb_names.proofs.OnceLemmas.{grown-turn, grown-all}
use Rattle.bb_names.proofs.implicit.add_calls.Goals as goal

pub loop-call-preserved : goal.loop-call-preserved
loop-call-preserved c =
    grown-turn c.args.declared.now.entries (λ x. names_in_conns x.1) call_view c.args.calls.now c.loop-call.call-index c.call-item.result c.args.set.now.keys c.loop-call.set.keys c.add_conns.new.set.keys c.loop-call-test.true c.call-item.is
    c.loop-call.invariant c.in_ok-add_conns.ensures

pub returns : goal.returns
returns c = grown-all c.args.declared.now.entries (λ x. names_in_conns x.1) call_view c.args.calls.now c.loop-call.call-index c.args.set.now.keys c.loop-call.set.keys c.loop-call-test.false c.loop-call.invariant
