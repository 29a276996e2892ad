use Rattle.std.proofs.Common.{◌++◌, ◌∷◌, [], subst, map, take}
use Rattle.bb_ast.specs.Inside.Views.{named_view}
use Rattle.bb_names.specs.declared.net.NetKind.TheVariants.{Wire}
use Rattle.bb_names.specs.Declarations.{net_declaration}
use Rattle.bb_names.specs.Inside.Summaries.{Describes}
use Rattle.bb_names.proofs.DeclaredLists.{turn-map, end-map}
use Rattle.bb_names.proofs.declaring.declare_nets.Goals as goal

pub loop-name-preserved : goal.loop-name-preserved
loop-name-preserved c = λ all before.
    let nets = c.args.nets.now in
    let made = map (λ x. net_declaration Wire c.args.range x.0) (map named_view (take c.loop-name.name-index nets)) in
    turn-map c.declare.new.declared.entries all (λ x. net_declaration Wire c.args.range x.0) named_view nets c.loop-name.name-index c.loop-name-item.result c.loop-name-test.true c.loop-name-item.is
    (subst (λ d. Describes c.declare.new.declared.entries ((all ++ made) ++ d ∷ [])) (c.net.ensures c.loop-name-item.result.0) (c.in_ok-declare.ensures (all ++ made) (c.loop-name.invariant all before)))

pub returns : goal.returns
returns c = λ all before. end-map c.loop-name.declared.entries all (λ x. net_declaration Wire c.args.range x.0) named_view c.args.nets.now c.loop-name.name-index c.loop-name-test.false (c.loop-name.invariant all before)
