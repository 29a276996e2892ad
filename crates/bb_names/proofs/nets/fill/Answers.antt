use Rattle.std.proofs.Common.{ap, ◌∙◌, map}
use Rattle.std.proofs.lemmas.Result.{on_ok_weaker}
use Rattle.bb_ast.specs.Inside.Views.{module_view}
use Rattle.bb_names.specs.Nets.{net_of, net_names}
use Rattle.bb_names.proofs.NetLemmas.{placed-names}
use Rattle.bb_names.proofs.nets.fill.Goals as goal

pub returns-clause-nets : goal.returns-clause-nets
returns-clause-nets c =
    let m = module_view c.args.of.now in
    on_ok_weaker c.add_nets.result (λ step. step ∙ ap (map (net_of m)) (ap (map (λ e. e.0)) c.in_ok-add_all.ensures ∙ placed-names 0 (net_names m))) c.add_nets.ensures

pub returns-clause-index : goal.returns-clause-index
returns-clause-index c = on_ok_weaker c.add_nets.result (λ _. c.in_ok-add_all.ensures) c.add_nets.ensures
