use Rattle.std.proofs.Common.{ap, ◌∙◌, subst, arith}
use Rattle.bb_ast.specs.Inside.Views.{expression}
use Rattle.bb_names.specs.Inside.Checked.{module_facts}
use Rattle.bb_names.specs.Widths.{Ranges, own_width}
use Rattle.bb_design.specs.NetBits.{written_bits}
use Rattle.bb_blast.specs.Inside.Logic.{IsLogicOf}
use Rattle.bb_blast.proofs.ModulePlaces.{ranges-are, beside_context, bits_meant}
use Rattle.bb_blast.proofs.assigning.assignment.Goals as goal

pub returns : goal.returns
returns c =
    let checked = c.args.context.checked.now in
    let k = c.args.context.module in
    let f = module_facts c.scope_at-scope.result.now in
    let there = c.scope_at-scope.ensures.there in
    let left = expression c.args.left.now in
    record {
      part = (
        bits_meant checked k f there c.in_ok-bits.bits.items (λ s. written_bits s left) c.in_ok-bits.ensures.bits,
        (
          c.in_ok-steps.steps,
          beside_context checked k f there c.in_ok-steps.steps left (expression c.args.right.now) c.own_width-least.result (c.own_width-least.ensures ∙ ap (λ (r : Ranges). own_width r left) (ranges-are checked k f there)) c.in_ok-steps.ensures.made,
          subst (λ n. IsLogicOf n c.in_ok-steps.steps c.in_ok-right.right) (omega (arith, c.len.ensures, c.in_ok-bits.bits.ok)) c.in_ok-right.ensures.logic,
        ),
      );
    }
