use Rattle.std.proofs.Common.{◌++◌, ◌∷◌, [], subst, map, take}
use Rattle.bb_ast.specs.Inside.Views.{call_view}
use Rattle.bb_names.specs.Declarations.{instance_declaration}
use Rattle.bb_names.specs.Inside.Summaries.{Describes}
use Rattle.bb_names.proofs.DeclaredLists.{turn-map, end-map}
use Rattle.bb_names.proofs.declaring.declare_calls.Goals as goal

pub loop-call-preserved : goal.loop-call-preserved
loop-call-preserved c = λ all before.
    let calls = c.args.calls.now in
    let made = map (λ x. instance_declaration x.0) (map call_view (take c.loop-call.call-index calls)) in
    turn-map c.declare.new.declared.entries all (λ x. instance_declaration x.0) call_view calls c.loop-call.call-index c.call-item.result c.loop-call-test.true c.call-item.is
    (subst (λ d. Describes c.declare.new.declared.entries ((all ++ made) ++ d ∷ [])) (c.instance.ensures c.call-item.result.name) (c.in_ok-declare.ensures (all ++ made) (c.loop-call.invariant all before)))

pub returns : goal.returns
returns c = λ all before. end-map c.loop-call.declared.entries all (λ x. instance_declaration x.0) call_view c.args.calls.now c.loop-call.call-index c.loop-call-test.false (c.loop-call.invariant all before)
