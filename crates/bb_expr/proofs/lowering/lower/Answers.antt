use Rattle.std.proofs.Common.{◌≤◌, length, sym, ap, subst, [], arith}
use Rattle.bb_ast.specs.Inside.Views.{expression}
use Rattle.bb_names.specs.Inside.Checked.{module_facts}
use Rattle.bb_names.specs.Widths.{own_width}
use Rattle.bb_expr.specs.Cells.{made, cell_count}
use Rattle.bb_expr.specs.Inside.Fit.{ranges_in}
use Rattle.bb_expr.specs.Inside.Growing.{Adds}
use Rattle.bb_expr.specs.Inside.Occurrences.{nets_at, ranges_at}
use Rattle.bb_expr.proofs.ScopeLemmas.{occurs-within, module-fit, ranges-are, nets-are}
use Rattle.bb_expr.proofs.LoweredLemmas.{is-lowered, has-value}
use Rattle.bb_expr.proofs.WalkLemmas.{steps-few}
use Rattle.bb_expr.proofs.lowering.lower.Goals as goal

pub bounds-modules-module : goal.bounds-modules-module
bounds-modules-module c = occurs-within c.args.checked.now c.modules.result.now c.modules.ensures.modules c.args.module (expression c.args.expr.now) c.requires.occurs

pub lower_at-requires : goal.lower_at-requires
lower_at-requires c =
    let e = expression c.args.expr.now in
    let within = occurs-within c.args.checked.now c.modules.result.now c.modules.ensures.modules c.args.module e c.requires.occurs in
    let ranges = ranges-are c.args.checked.now c.modules.result.now c.modules.ensures.modules c.args.module c.index-modules-module.result c.index-modules-module.is within in
    record {
      fit = module-fit c.args.checked.now c.modules.result.now c.modules.ensures.modules c.args.module c.index-modules-module.result c.index-modules-module.is within
          c.occurrences_are_fit.ensures c.modules.ensures.checked e c.requires.occurs;
      own = subst (λ r. own_width r e ≤ c.args.width) ranges c.requires.own;
      width = c.requires.width;
      room = omega (arith, ap length c.in_ok-steps.ensures.items, c.requires.width, c.requires.cells, ap (λ r. cell_count r e c.args.width) ranges);
      few = omega (arith, c.requires.cells, ap (λ r. cell_count r e c.args.width) ranges);
    }

pub returns : goal.returns
returns c =
    let e = expression c.args.expr.now in
    let w = c.args.width in
    let within = occurs-within c.args.checked.now c.modules.result.now c.modules.ensures.modules c.args.module e c.requires.occurs in
    let ranges = ranges-are c.args.checked.now c.modules.result.now c.modules.ensures.modules c.args.module c.index-modules-module.result c.index-modules-module.is within in
    let nets = nets-are c.args.checked.now c.modules.result.now c.modules.ensures.modules c.args.module c.index-modules-module.result c.index-modules-module.is within in
    let all = c.lower_at.new.steps.items in
    let bits = c.in_ok-bits.bits.items in
    let m = module_facts c.index-modules-module.result in
    let adds : Adds (nets_at c.args.checked.now c.args.module) (made (ranges_at c.args.checked.now c.args.module) e w) [] all bits
    = subst (λ n. Adds n (made (ranges_at c.args.checked.now c.args.module) e w) [] all bits) (sym nets)
    (subst (λ r. Adds m.nets (made r e w) [] all bits) (sym ranges) (subst (λ old. Adds m.nets (made (ranges_in m) e w) old all bits) c.in_ok-steps.ensures.items c.in_ok-bits.ensures)) in
    record {
      lowered = is-lowered (nets_at c.args.checked.now c.args.module) (ranges_at c.args.checked.now c.args.module) e w all bits c.requires.own adds;
      value = has-value (nets_at c.args.checked.now c.args.module) (ranges_at c.args.checked.now c.args.module) e w all bits c.requires.own adds c.made_has_value.ensures;
      few = omega (arith, steps-few (nets_at c.args.checked.now c.args.module) (ranges_at c.args.checked.now c.args.module) e w [] all bits c.requires.own adds);
    }
