use Rattle.std.proofs.Common.{ap, ◌∙◌}
use Rattle.bb_ast.specs.Inside.Views.{module_view}
use Rattle.bb_names.specs.Declarations.{range_of}
use Rattle.bb_names.specs.Ranges.{range_width}
use Rattle.bb_names.proofs.WidthLemmas.{saturated-small}
use Rattle.bb_names.proofs.faults.expressions.look_at_net.Goals as goal

pub returns-clause-width : goal.returns-clause-width
returns-clause-width c =
    saturated-small c.width_of.result (range_width (range_of (module_view c.args.of.now) c.args.name.now)) (c.width_of.ensures.width ∙ ap range_width c.in_ok-facts.ensures.range) c.width_of.ensures.small
