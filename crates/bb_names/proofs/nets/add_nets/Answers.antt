use Rattle.std.proofs.Common.{◌++◌, ap, sym, ◌∙◌, map, append-nil}
use Rattle.bb_ast.specs.Inside.Views.{module_view}
use Rattle.bb_names.specs.Nets.{net_of}
use Rattle.bb_names.proofs.nets.add_nets.Goals as goal

pub returns : goal.returns
returns c =
    let m = module_view c.args.of.now in
    sym (append-nil c.loop-name.all.items) ∙ ap (λ rest. c.loop-name.all.items ++ map (net_of m) rest) (sym c.in-None.ensures.steps.0) ∙ c.loop-name.invariant
    ∙ ap (map (net_of m)) (c.into_iter-name-iterator.ensures.into_iter_gives ∙ c.keys-name-items.ensures.rest)
