use Rattle.std.proofs.Common.{filter, sym, ap, ◌∙◌}
use Rattle.std.specs.Prelude.{if◌then◌else◌, sum_by}
use Rattle.bb_names.specs.Inside.Checked.{module_facts, syntax}
use Rattle.bb_names.specs.Nets.{nets_of}
use Rattle.bb_expr.specs.Inside.Shares.{capped}
use Rattle.bb_hier.specs.Inside.Weights.{construct_cells, instance_cells, net_width, is_output_net}
use Rattle.bb_hier.proofs.ModulesAt.{nets_at_place, module_is}
use Rattle.bb_hier.proofs.size.instance_cells.Goals as goal

pub returns-then-scope : goal.returns-then-scope
returns-then-scope c =
    let has = nets_at_place c.args.checked.now c.modules.result.now c.modules.ensures.modules c.args.place c.index-modules-place.result c.index-modules-place.is c.requires.place c.modules.ensures.checked in
    let m = syntax (module_facts c.index-modules-place.result) in
    record {
      cells = λ n here constructs. c.port_bits.ensures.bits ∙ ap (λ nets. capped (sum_by net_width (filter is_output_net nets))) (c.deref.ensures.value ∙ has.nets)
          ∙ ap (λ b. capped (if b then sum_by net_width (filter is_output_net (nets_of m)) else construct_cells m)) (sym (sym has.empty ∙ c.if-scope.true))
          ∙ ap (λ m. capped (instance_cells m)) (module_is c.args.checked.now c.modules.result.now c.modules.ensures.modules c.args.place c.index-modules-place.result c.index-modules-place.is c.requires.place n here);
    }

pub returns : goal.returns
returns c =
    let has = nets_at_place c.args.checked.now c.modules.result.now c.modules.ensures.modules c.args.place c.index-modules-place.result c.index-modules-place.is c.requires.place c.modules.ensures.checked in
    let m = syntax (module_facts c.index-modules-place.result) in
    record {
      cells = λ n here constructs. constructs ∙ ap (λ m. capped (construct_cells m)) (sym (module_is c.args.checked.now c.modules.result.now c.modules.ensures.modules c.args.place c.index-modules-place.result c.index-modules-place.is c.requires.place n here))
          ∙ ap (λ b. capped (if b then sum_by net_width (filter is_output_net (nets_of m)) else construct_cells m)) (sym (sym has.empty ∙ c.if-scope.false))
          ∙ ap (λ m. capped (instance_cells m)) (module_is c.args.checked.now c.modules.result.now c.modules.ensures.modules c.args.place c.index-modules-place.result c.index-modules-place.is c.requires.place n here);
    }
