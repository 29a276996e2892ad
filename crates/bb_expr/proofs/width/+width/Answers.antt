-- What an operand needs, and what the widths of operands are together.
use Rattle.std.proofs.Common.{◌+◌, ◌*◌, ◌≤◌, map, drop, sym, ap, ap₂, ◌∙◌, subst, arith, rules}
use Rattle.std.specs.Prelude.{sum, max, All}
use Rattle.bb_ast.specs.Inside.Views.{expression, operand_view, arm_view}
use Rattle.bb_ast.specs.declared.expr.Expr.{the_lemmas}
use Rattle.bb_names.specs.Inside.Checked.{module_facts}
use Rattle.bb_names.specs.Widths.{own_width, greatest, operator_width}
use Rattle.bb_expr.specs.Inside.Fit.{AreFit, ranges_in}
use Rattle.bb_expr.proofs.ViewLemmas.{expression-not, expression-chain, expression-cond, expression-concat, expression-repeat, expression-words}
use Rattle.bb_expr.proofs.OperandLemmas.{fit-not, fit-first, fit-operands, fit-left, fit-words, fit-arms, fit-last, fit-parts, fit-copied, parts-bounded, copied-bounded, copies-bounded, chain-width, cond-width, concat-width, repeat-width}
use Rattle.std.proofs.lemmas.List.{at_drop_all}
use Rattle.bb_lemmas.proofs.Turns.{all_here}
use Rattle.bb_expr.specs.Inside.Levels.{width_on}
use Rattle.bb_expr.proofs.LevelLemmas.{level-width}
use Rattle.bb_expr.proofs.Loops.{rest-here}
use Rattle.bb_expr.proofs.width.+width.Goals as goal

pub width_of-width_of-requires : goal.width_of-width_of-requires
width_of-width_of-requires t c =
    let m = module_facts c.args.scope.now in (
      search (rules, the_lemmas),
      subst (λ e. AreFit m (expression e)) (sym c.deref.ensures)
          (fit-not m c.in-Not.field-0 (expression c.in-Not.operand.value) (subst (AreFit m) (expression-not c.args.expr.now c.in-Not.field-0 c.in-Not.operand c.in-Not.is) c.requires.fit)),
    )

pub total_width-width_of-total-requires : goal.total_width-width_of-total-requires
total_width-width_of-total-requires t c = (
  search (rules, the_lemmas),
  all_here (AreFit (module_facts c.args.scope.now)) expression c.args.all.now c.loop-part.part-index c.part-item.result c.loop-part-test.true c.part-item.is c.requires.fit,
)

pub widest_operand-width_of-requires : goal.widest_operand-width_of-requires
widest_operand-width_of-requires t c = (
  search (rules, the_lemmas),
  all_here (λ x. AreFit (module_facts c.args.scope.now) x.1) operand_view c.args.rest.now c.loop-operand.operand-index c.loop-operand-item.result c.loop-operand-test.true c.loop-operand-item.is c.requires.fit,
)

pub widest_value-width_of-requires : goal.widest_value-width_of-requires
widest_value-width_of-requires t c = (
  search (rules, the_lemmas),
  all_here (λ x. AreFit (module_facts c.args.scope.now) x.1) arm_view c.args.all.now c.loop-value.value-index c.loop-value-item.result c.loop-value-test.true c.loop-value-item.is c.requires.fit,
)

pub width_of-width_of-requires-in-Chain : goal.width_of-width_of-requires-in-Chain
width_of-width_of-requires-in-Chain t c =
    let m = module_facts c.args.scope.now in (
      search (rules, the_lemmas),
      subst (λ e. AreFit m (expression e)) (sym c.deref-in-Chain.ensures)
          (fit-first m (expression c.in-Chain.first.value) (map operand_view c.in-Chain.rest.items)
          (subst (AreFit m) (expression-chain c.args.expr.now c.in-Chain.first c.in-Chain.rest c.in-Chain.is) c.requires.fit)),
    )

pub width_of-widest_operand-requires : goal.width_of-widest_operand-requires
width_of-widest_operand-requires t c =
    let m = module_facts c.args.scope.now in (
      search (rules, the_lemmas),
      subst (λ xs. All (λ x. AreFit m x.1) (map operand_view xs)) (sym c.deref-in-Chain-2.ensures.value)
          (fit-operands m (expression c.in-Chain.first.value) (map operand_view c.in-Chain.rest.items)
          (subst (AreFit m) (expression-chain c.args.expr.now c.in-Chain.first c.in-Chain.rest c.in-Chain.is) c.requires.fit)),
    )

pub width_of-widest_value-requires : goal.width_of-widest_value-requires
width_of-widest_value-requires t c =
    let m = module_facts c.args.scope.now in
    let arms = fit-arms m (map arm_view c.in-Cond.all.items) (expression c.in-Cond.last.value)
    (subst (AreFit m) (expression-cond c.args.expr.now c.in-Cond.all c.in-Cond.last c.in-Cond.is) c.requires.fit) in (
      search (rules, the_lemmas),
      subst (λ xs. All (λ x. AreFit m x.1) (map arm_view xs)) (sym c.deref-in-Cond.ensures.value) (λ k d lt. (arms k d lt).1),
    )

pub width_of-width_of-requires-in-Cond : goal.width_of-width_of-requires-in-Cond
width_of-width_of-requires-in-Cond t c =
    let m = module_facts c.args.scope.now in (
      search (rules, the_lemmas),
      subst (λ e. AreFit m (expression e)) (sym c.deref-in-Cond-2.ensures)
          (fit-last m (map arm_view c.in-Cond.all.items) (expression c.in-Cond.last.value)
          (subst (AreFit m) (expression-cond c.args.expr.now c.in-Cond.all c.in-Cond.last c.in-Cond.is) c.requires.fit)),
    )

pub width_of-total_width-requires : goal.width_of-total_width-requires
width_of-total_width-requires t c =
    let m = module_facts c.args.scope.now in
    let fit = subst (AreFit m) (expression-concat c.args.expr.now c.in-Concat.all c.in-Concat.is) c.requires.fit in (
      search (rules, the_lemmas),
      (
        subst (λ xs. All (AreFit m) (map expression xs)) (sym c.deref-in-Concat.ensures.value) (fit-parts m (map expression c.in-Concat.all.items) fit),
        subst (λ xs. sum (map (own_width (ranges_in m)) (map expression xs)) ≤ 65536) (sym c.deref-in-Concat.ensures.value) (parts-bounded m (map expression c.in-Concat.all.items) fit),
      ),
    )

pub width_of-total_width-requires-in-Repeat : goal.width_of-total_width-requires-in-Repeat
width_of-total_width-requires-in-Repeat t c =
    let m = module_facts c.args.scope.now in
    let fit = subst (AreFit m) (expression-repeat c.args.expr.now c.in-Repeat.count c.in-Repeat.all c.in-Repeat.is) c.requires.fit in (
      search (rules, the_lemmas),
      (
        subst (λ xs. All (AreFit m) (map expression xs)) (sym c.deref-in-Repeat.ensures.value) (fit-copied m c.in-Repeat.count (map expression c.in-Repeat.all.items) fit),
        subst (λ xs. sum (map (own_width (ranges_in m)) (map expression xs)) ≤ 65536) (sym c.deref-in-Repeat.ensures.value) (copied-bounded m c.in-Repeat.count (map expression c.in-Repeat.all.items) fit),
      ),
    )

pub width_of-overflow_mul-result : goal.width_of-overflow_mul-result
width_of-overflow_mul-result t c =
    let m = module_facts c.args.scope.now in
    let fit = subst (AreFit m) (expression-repeat c.args.expr.now c.in-Repeat.count c.in-Repeat.all c.in-Repeat.is) c.requires.fit in
    let total = c.total_width-in-Repeat.ensures ∙ ap (λ xs. sum (map (own_width (ranges_in m)) (map expression xs))) c.deref-in-Repeat.ensures.value in
    omega (arith, ap (λ n. c.in-Repeat.count * n) total, copies-bounded m c.in-Repeat.count (map expression c.in-Repeat.all.items) fit)

pub width_of-returns-in-Chain : goal.width_of-returns-in-Chain
width_of-returns-in-Chain t c =
    let m = module_facts c.args.scope.now in
    let view = expression-chain c.args.expr.now c.in-Chain.first c.in-Chain.rest c.in-Chain.is in
    c.max.ensures
    ∙ ap₂ max (c.width_of-in-Chain.ensures ∙ ap (λ e. own_width (ranges_in m) (expression e)) c.deref-in-Chain.ensures)
    (c.widest_operand.ensures ∙ ap (λ xs. greatest (map (λ x. own_width (ranges_in m) x.1) (map operand_view xs))) c.deref-in-Chain-2.ensures.value)
    ∙ sym (ap (own_width (ranges_in m)) view ∙ chain-width (ranges_in m) (expression c.in-Chain.first.value) (map operand_view c.in-Chain.rest.items))

pub width_of-returns-in-Cond : goal.width_of-returns-in-Cond
width_of-returns-in-Cond t c =
    let m = module_facts c.args.scope.now in
    let view = expression-cond c.args.expr.now c.in-Cond.all c.in-Cond.last c.in-Cond.is in
    c.max-in-Cond.ensures
    ∙ ap₂ max (c.widest_value.ensures ∙ ap (λ xs. greatest (map (λ x. own_width (ranges_in m) x.1) (map arm_view xs))) c.deref-in-Cond.ensures.value)
    (c.width_of-in-Cond.ensures ∙ ap (λ e. own_width (ranges_in m) (expression e)) c.deref-in-Cond-2.ensures)
    ∙ sym (ap (own_width (ranges_in m)) view ∙ cond-width (ranges_in m) (map arm_view c.in-Cond.all.items) (expression c.in-Cond.last.value))

pub width_of-returns-in-Repeat : goal.width_of-returns-in-Repeat
width_of-returns-in-Repeat t c =
    let m = module_facts c.args.scope.now in
    let view = expression-repeat c.args.expr.now c.in-Repeat.count c.in-Repeat.all c.in-Repeat.is in
    ap (λ n. c.in-Repeat.count * n) (c.total_width-in-Repeat.ensures ∙ ap (λ xs. sum (map (own_width (ranges_in m)) (map expression xs))) c.deref-in-Repeat.ensures.value)
    ∙ sym (ap (own_width (ranges_in m)) view ∙ repeat-width (ranges_in m) c.in-Repeat.count (map expression c.in-Repeat.all.items))

pub width_of-returns-in-Concat : goal.width_of-returns-in-Concat
width_of-returns-in-Concat t c =
    let m = module_facts c.args.scope.now in
    let view = expression-concat c.args.expr.now c.in-Concat.all c.in-Concat.is in
    c.total_width.ensures ∙ ap (λ xs. sum (map (own_width (ranges_in m)) (map expression xs))) c.deref-in-Concat.ensures.value
    ∙ sym (ap (own_width (ranges_in m)) view ∙ concat-width (ranges_in m) (map expression c.in-Concat.all.items))

-- operators on words
pub width_of-width_of-requires-in-Words : goal.width_of-width_of-requires-in-Words
width_of-width_of-requires-in-Words t c =
    let m = module_facts c.args.scope.now in (
      search (rules, the_lemmas),
      subst (λ e. AreFit m (expression e)) (sym c.deref-in-Words.ensures)
          (fit-left m (expression c.in-Words.first.value) (map operand_view c.in-Words.rest.items)
          (subst (AreFit m) (expression-words c.args.expr.now c.in-Words.first c.in-Words.rest c.in-Words.is) c.requires.fit)),
    )

pub width_of-level_width-requires : goal.width_of-level_width-requires
width_of-level_width-requires t c =
    let m = module_facts c.args.scope.now in (
      search (rules, the_lemmas),
      subst (λ xs. All (λ x. AreFit m x.1) (map operand_view xs)) (sym c.deref-in-Words-2.ensures.value)
          (fit-words m (expression c.in-Words.first.value) (map operand_view c.in-Words.rest.items)
          (subst (AreFit m) (expression-words c.args.expr.now c.in-Words.first c.in-Words.rest c.in-Words.is) c.requires.fit)),
    )

pub width_of-returns-in-Words : goal.width_of-returns-in-Words
width_of-returns-in-Words t c =
    let ranges = ranges_in (module_facts c.args.scope.now) in
    let view = expression-words c.args.expr.now c.in-Words.first c.in-Words.rest c.in-Words.is in
    c.level_width.ensures
    ∙ ap₂ (λ l xs. width_on ranges l (map operand_view xs)) (c.width_of-in-Words.ensures ∙ ap (λ e. own_width ranges (expression e)) c.deref-in-Words.ensures) c.deref-in-Words-2.ensures.value
    ∙ sym (ap (own_width ranges) view ∙ level-width ranges (expression c.in-Words.first.value) (map operand_view c.in-Words.rest.items))

pub level_width-width_of-requires : goal.level_width-width_of-requires
level_width-width_of-requires t c = (
  search (rules, the_lemmas),
  all_here (λ x. AreFit (module_facts c.args.scope.now) x.1) operand_view c.args.rest.now c.loop-op.op-index c.loop-op-item.result c.loop-op-test.true c.loop-op-item.is c.requires.fit,
)

pub level_width-loop-op-preserved : goal.level_width-loop-op-preserved
level_width-loop-op-preserved t c =
    let ranges = ranges_in (module_facts c.args.scope.now) in
    let i = c.loop-op.op-index in
    let x = c.loop-op-item.result in
    ap (λ k. width_on ranges k (map operand_view (drop (i + 1) c.args.rest.now))) (c.operator_width-width.ensures ∙ ap (operator_width x.0 c.loop-op.width) c.width_of.ensures)
    ∙ sym (rest-here (width_on ranges c.loop-op.width) operand_view c.args.rest.now i x c.loop-op-test.true c.loop-op-item.is) ∙ c.loop-op.invariant

pub level_width-returns : goal.level_width-returns
level_width-returns t c =
    let ranges = ranges_in (module_facts c.args.scope.now) in
    sym (at_drop_all (λ ys. width_on ranges c.loop-op.width (map operand_view ys)) c.args.rest.now c.loop-op.op-index c.loop-op-test.false) ∙ c.loop-op.invariant
