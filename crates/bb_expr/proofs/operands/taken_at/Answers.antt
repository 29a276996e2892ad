use Rattle.std.proofs.Common.{◌≡◌, ◌<◌, ℕ, true, length, sym, ap, ◌∙◌, arith}
use Rattle.std.specs.Prelude.{nat_lt}
use Rattle.std.proofs.lemmas.Bool.Decides.{nat_tests}
use Rattle.bb_lemmas.proofs.Turns.{all_here}
use Rattle.bb_ast.specs.Inside.Views.{operand_view}
use Rattle.bb_names.specs.Inside.Checked.{module_facts}
use Rattle.bb_names.specs.Widths.{first_at}
use Rattle.bb_expr.specs.Inside.Fit.{AreFit, ranges_in}
use Rattle.bb_expr.proofs.LevelLemmas.{taken-here}
use Rattle.bb_expr.proofs.operands.taken_at.Goals as goal

below : (a b : ℕ) → true ≡ nat_lt a b → a < b
below a b h = grind (arith, nat_tests, h)

pub width_of-requires : goal.width_of-requires
width_of-requires c =
    let rest = c.args.rest.now in
    let x = c.in-Some.field-0.now in
    let found = c.in-Some.ensures.lookup in
    let within = below c.args.next (length rest) found.0 in
    record { fit = all_here (λ x. AreFit (module_facts c.args.scope.now) x.1) operand_view rest c.args.next x within found.1 c.requires.fit }

pub returns-in-Some : goal.returns-in-Some
returns-in-Some c =
    let ranges = ranges_in (module_facts c.args.scope.now) in
    let rest = c.args.rest.now in
    let x = c.in-Some.field-0.now in
    let found = c.in-Some.ensures.lookup in
    let within = below c.args.next (length rest) found.0 in
    c.first_at.ensures ∙ ap (λ r. first_at x.0 c.args.left r c.args.width) c.width_of.ensures
    ∙ sym (taken-here ranges operand_view rest c.args.next x c.args.left c.args.width within found.1 c.requires.level)
