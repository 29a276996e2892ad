use Rattle.std.proofs.Common.{ap, sym, ◌∙◌, map}
use Rattle.bb_ast.specs.Inside.Views.{module_view}
use Rattle.bb_names.specs.Nets.{net_names}
use Rattle.bb_bits.specs.Names.{placed}
use Rattle.bb_names.proofs.NetLemmas.{names-of}
use Rattle.bb_names.proofs.nets.nets_in.Goals as goal

pub returns-clause-index : goal.returns-clause-index
returns-clause-index c =
    let m = module_view c.args.of.now in
    c.in_ok-fill.ensures.index ∙ ap (placed 0) (sym (ap (map (λ net. net.name)) c.in_ok-fill.ensures.nets ∙ names-of m (net_names m)))
