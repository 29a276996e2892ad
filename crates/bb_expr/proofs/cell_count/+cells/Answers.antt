-- What an operand needs, and that the cells of operands are added up.
use Rattle.std.proofs.Common.{◌≡◌, ◌+◌, ◌-◌, ◌*◌, map, drop, refl, sym, ap, ap₂, ◌∙◌, subst, arith, rules}
use Rattle.std.specs.Prelude.{◌^◌, All, sum_by, min}
use Rattle.bb_lemmas.proofs.Turns.{all_here}
use Rattle.bb_ast.specs.Inside.Views.{expression, operand_view, arm_view}
use Rattle.bb_ast.specs.declared.expr.Expr.{the_lemmas}
use Rattle.bb_names.specs.Inside.Checked.{module_facts}
use Rattle.bb_names.specs.Widths.{own_width}
use Rattle.bb_expr.specs.Cells.{op_cells, cell_count}
use Rattle.bb_expr.specs.Inside.Fit.{AreFit, ranges_in}
use Rattle.bb_expr.specs.Inside.Shares.{capped, own_cells, operand_cells, arm_cells}
use Rattle.bb_expr.proofs.ViewLemmas.{expression-not, expression-chain, expression-cond, expression-concat, expression-repeat, expression-fold, expression-words}
use Rattle.bb_expr.proofs.OperandLemmas.{fit-folded, fit-left, fit-words, fit-here, fit-not, fit-first, fit-operands, fit-arms, fit-last, fit-parts, fit-copied}
use Rattle.bb_expr.proofs.ShareLemmas.{chain-cells, cond-cells, concat-cells, repeat-cells, two-shares, operand-share, arm-share, share-more, share-all, op-small}
use Rattle.bb_ast.specs.Syntax.{Words, word_operands}
use Rattle.bb_ast.specs.Levels.{IsOneLevel}
use Rattle.bb_expr.specs.Inside.Levels.{taken, words_cells}
use Rattle.bb_word.specs.Words.{word_cells}
use Rattle.bb_expr.proofs.LevelLemmas.{first-most, second-most, words-cells}
use Rattle.bb_expr.proofs.ReadyLemmas.{here-most, level-most, cells-here, level-share}
use denote.Param.Weighed.{at_most}
use Rattle.bb_ast.specs.declared.expr.Expr.TheShapes.{weighed-Expr-Words-1-at-2}
use Rattle.bb_ast.proofs.expr.Expr.TheLaws.{the_size}
use Rattle.bb_ast.specs.declared.expr.Expr.{Expr}
use Rattle.bb_expr.proofs.cell_count.+cells.Goals as goal

pub cells_at-cells_at-inner-requires : goal.cells_at-cells_at-inner-requires
cells_at-cells_at-inner-requires t c =
    let m = module_facts c.args.scope.now in (
      search (rules, the_lemmas),
      (
        subst (λ e. AreFit m (expression e)) (sym c.deref.ensures)
            (fit-not m c.in-Not.count (expression c.in-Not.operand.value) (subst (AreFit m) (expression-not c.args.expr.now c.in-Not.count c.in-Not.operand c.in-Not.is) c.requires.fit)),
        c.requires.width,
      ),
    )

pub cells_at-cells_at-requires : goal.cells_at-cells_at-requires
cells_at-cells_at-requires t c =
    let m = module_facts c.args.scope.now in (
      search (rules, the_lemmas),
      (
        subst (λ e. AreFit m (expression e)) (sym c.deref-in-Chain.ensures)
            (fit-first m (expression c.in-Chain.first.value) (map operand_view c.in-Chain.rest.items)
            (subst (AreFit m) (expression-chain c.args.expr.now c.in-Chain.first c.in-Chain.rest c.in-Chain.is) c.requires.fit)),
        c.requires.width,
      ),
    )

pub cells_at-operand_cells-requires : goal.cells_at-operand_cells-requires
cells_at-operand_cells-requires t c =
    let m = module_facts c.args.scope.now in (
      search (rules, the_lemmas),
      (
        subst (λ xs. All (λ x. AreFit m x.1) (map operand_view xs)) (sym c.deref-in-Chain-2.ensures.value)
            (fit-operands m (expression c.in-Chain.first.value) (map operand_view c.in-Chain.rest.items)
            (subst (AreFit m) (expression-chain c.args.expr.now c.in-Chain.first c.in-Chain.rest c.in-Chain.is) c.requires.fit)),
        c.requires.width,
      ),
    )

pub cells_at-arm_cells-requires : goal.cells_at-arm_cells-requires
cells_at-arm_cells-requires t c =
    let m = module_facts c.args.scope.now in (
      search (rules, the_lemmas),
      (
        subst (λ xs. All (λ x. AreFit m x.0 × AreFit m x.1) (map arm_view xs)) (sym c.deref-in-Cond.ensures.value)
            (fit-arms m (map arm_view c.in-Cond.all.items) (expression c.in-Cond.last.value)
            (subst (AreFit m) (expression-cond c.args.expr.now c.in-Cond.all c.in-Cond.last c.in-Cond.is) c.requires.fit)),
        c.requires.width,
      ),
    )

pub cells_at-cells_at-requires-in-Cond : goal.cells_at-cells_at-requires-in-Cond
cells_at-cells_at-requires-in-Cond t c =
    let m = module_facts c.args.scope.now in (
      search (rules, the_lemmas),
      (
        subst (λ e. AreFit m (expression e)) (sym c.deref-in-Cond-2.ensures)
            (fit-last m (map arm_view c.in-Cond.all.items) (expression c.in-Cond.last.value)
            (subst (AreFit m) (expression-cond c.args.expr.now c.in-Cond.all c.in-Cond.last c.in-Cond.is) c.requires.fit)),
        c.requires.width,
      ),
    )

pub cells_at-part_cells-requires : goal.cells_at-part_cells-requires
cells_at-part_cells-requires t c =
    let m = module_facts c.args.scope.now in (
      search (rules, the_lemmas),
      subst (λ xs. All (AreFit m) (map expression xs)) (sym c.deref-in-Concat.ensures.value)
          (fit-parts m (map expression c.in-Concat.all.items) (subst (AreFit m) (expression-concat c.args.expr.now c.in-Concat.all c.in-Concat.is) c.requires.fit)),
    )

pub cells_at-part_cells-requires-in-Repeat : goal.cells_at-part_cells-requires-in-Repeat
cells_at-part_cells-requires-in-Repeat t c =
    let m = module_facts c.args.scope.now in (
      search (rules, the_lemmas),
      subst (λ xs. All (AreFit m) (map expression xs)) (sym c.deref-in-Repeat.ensures.value)
          (fit-copied m c.in-Repeat.field-0 (map expression c.in-Repeat.all.items) (subst (AreFit m) (expression-repeat c.args.expr.now c.in-Repeat.field-0 c.in-Repeat.all c.in-Repeat.is) c.requires.fit)),
    )

pub cells_at-returns-in-Chain : goal.cells_at-returns-in-Chain
cells_at-returns-in-Chain t c =
    let m = module_facts c.args.scope.now in
    let view = expression-chain c.args.expr.now c.in-Chain.first c.in-Chain.rest c.in-Chain.is in
    two-shares (2 ^ 64 - 1) (cell_count (ranges_in m) (expression c.in-Chain.first.value) c.args.width) (sum_by (operand_cells (ranges_in m) c.args.width) (map operand_view c.in-Chain.rest.items))
    c.cells_at.result c.operand_cells.result c.saturating_add-in-Chain.result
    (c.cells_at.ensures ∙ ap (λ e. capped (cell_count (ranges_in m) (expression e) c.args.width)) c.deref-in-Chain.ensures)
    (c.operand_cells.ensures ∙ ap (λ xs. capped (sum_by (operand_cells (ranges_in m) c.args.width) (map operand_view xs))) c.deref-in-Chain-2.ensures.value)
    c.saturating_add-in-Chain.ensures
    ∙ ap capped (sym (ap (λ e. cell_count (ranges_in m) e c.args.width) view ∙ chain-cells (ranges_in m) (expression c.in-Chain.first.value) (map operand_view c.in-Chain.rest.items) c.args.width))

pub cells_at-returns-in-Cond : goal.cells_at-returns-in-Cond
cells_at-returns-in-Cond t c =
    let m = module_facts c.args.scope.now in
    let view = expression-cond c.args.expr.now c.in-Cond.all c.in-Cond.last c.in-Cond.is in
    two-shares (2 ^ 64 - 1) (sum_by (arm_cells (ranges_in m) c.args.width) (map arm_view c.in-Cond.all.items)) (cell_count (ranges_in m) (expression c.in-Cond.last.value) c.args.width)
    c.arm_cells.result c.cells_at-in-Cond.result c.saturating_add-in-Cond.result
    (c.arm_cells.ensures ∙ ap (λ xs. capped (sum_by (arm_cells (ranges_in m) c.args.width) (map arm_view xs))) c.deref-in-Cond.ensures.value)
    (c.cells_at-in-Cond.ensures ∙ ap (λ e. capped (cell_count (ranges_in m) (expression e) c.args.width)) c.deref-in-Cond-2.ensures)
    c.saturating_add-in-Cond.ensures
    ∙ ap capped (sym (ap (λ e. cell_count (ranges_in m) e c.args.width) view ∙ cond-cells (ranges_in m) (map arm_view c.in-Cond.all.items) (expression c.in-Cond.last.value) c.args.width))

pub cells_at-returns-in-Concat : goal.cells_at-returns-in-Concat
cells_at-returns-in-Concat t c =
    let m = module_facts c.args.scope.now in
    let view = expression-concat c.args.expr.now c.in-Concat.all c.in-Concat.is in
    c.part_cells.ensures ∙ ap (λ xs. capped (sum_by (own_cells (ranges_in m)) (map expression xs))) c.deref-in-Concat.ensures.value
    ∙ ap capped (sym (ap (λ e. cell_count (ranges_in m) e c.args.width) view ∙ concat-cells (ranges_in m) (map expression c.in-Concat.all.items) c.args.width))

pub cells_at-returns-in-Repeat : goal.cells_at-returns-in-Repeat
cells_at-returns-in-Repeat t c =
    let m = module_facts c.args.scope.now in
    let view = expression-repeat c.args.expr.now c.in-Repeat.field-0 c.in-Repeat.all c.in-Repeat.is in
    c.part_cells-in-Repeat.ensures ∙ ap (λ xs. capped (sum_by (own_cells (ranges_in m)) (map expression xs))) c.deref-in-Repeat.ensures.value
    ∙ ap capped (sym (ap (λ e. cell_count (ranges_in m) e c.args.width) view ∙ repeat-cells (ranges_in m) c.in-Repeat.field-0 (map expression c.in-Repeat.all.items) c.args.width))

pub operand_cells-cells_at-inner-requires : goal.operand_cells-cells_at-inner-requires
operand_cells-cells_at-inner-requires t c = (
  search (rules, the_lemmas),
  (
    all_here (λ x. AreFit (module_facts c.args.scope.now) x.1) operand_view c.args.rest.now c.loop-op.op-index c.loop-op-item.result c.loop-op-test.true c.loop-op-item.is c.requires.fit,
    c.requires.width,
  ),
)

pub operand_cells-loop-op-preserved : goal.operand_cells-loop-op-preserved
operand_cells-loop-op-preserved t c =
    let m = module_facts c.args.scope.now in
    let gates : c.from.result ≡ op_cells c.loop-op-item.result.0 * c.args.width = c.from.ensures ∙ ap (λ n. n * c.args.width) c.op_cells.ensures in
    share-more (operand_cells (ranges_in m) c.args.width) operand_view c.args.rest.now c.loop-op.op-index c.loop-op-item.result (2 ^ 64 - 1)
    c.loop-op.total c.saturating_add.result c.saturating_add-total.result c.loop-op-test.true c.loop-op-item.is c.loop-op.invariant
    (operand-share (2 ^ 64 - 1) (cell_count (ranges_in m) (expression c.loop-op-item.result.1) c.args.width) (op_cells c.loop-op-item.result.0 * c.args.width) c.cells_at-inner.result c.saturating_add.result
    c.cells_at-inner.ensures (omega (arith, op-small c.loop-op-item.result.0 c.args.width, c.requires.width)) (subst (λ n. c.saturating_add.result ≡ min (c.cells_at-inner.result + n) (2 ^ 64 - 1)) gates c.saturating_add.ensures))
    c.saturating_add-total.ensures

pub operand_cells-returns : goal.operand_cells-returns
operand_cells-returns t c =
    share-all (operand_cells (ranges_in (module_facts c.args.scope.now)) c.args.width) operand_view c.args.rest.now c.loop-op.op-index (2 ^ 64 - 1) c.loop-op.total c.loop-op-test.false c.loop-op.invariant

pub arm_cells-width_of-own-requires : goal.arm_cells-width_of-own-requires
arm_cells-width_of-own-requires t c =
    let m = module_facts c.args.scope.now in
    record { fit = (all_here (λ x. AreFit m x.0 × AreFit m x.1) arm_view c.args.all.now c.loop-condition.condition-index c.loop-condition-item.result c.loop-condition-test.true c.loop-condition-item.is c.requires.fit).0 }

pub arm_cells-cells_at-requires : goal.arm_cells-cells_at-requires
arm_cells-cells_at-requires t c =
    let m = module_facts c.args.scope.now in
    let fit = all_here (λ x. AreFit m x.0 × AreFit m x.1) arm_view c.args.all.now c.loop-condition.condition-index c.loop-condition-item.result c.loop-condition-test.true c.loop-condition-item.is c.requires.fit in (
      search (rules, the_lemmas),
      (fit.0, omega (arith, c.width_of-own.ensures, (fit-here m (expression c.loop-condition-item.result.0) fit.0).bounded)),
    )

pub arm_cells-cells_at-requires-in-loop-condition : goal.arm_cells-cells_at-requires-in-loop-condition
arm_cells-cells_at-requires-in-loop-condition t c =
    let m = module_facts c.args.scope.now in
    let fit = all_here (λ x. AreFit m x.0 × AreFit m x.1) arm_view c.args.all.now c.loop-condition.condition-index c.loop-condition-item.result c.loop-condition-test.true c.loop-condition-item.is c.requires.fit in
    (search (rules, the_lemmas), (fit.1, c.requires.width))

pub arm_cells-overflow_sub-own : goal.arm_cells-overflow_sub-own
arm_cells-overflow_sub-own t c =
    let m = module_facts c.args.scope.now in
    let fit = all_here (λ x. AreFit m x.0 × AreFit m x.1) arm_view c.args.all.now c.loop-condition.condition-index c.loop-condition-item.result c.loop-condition-test.true c.loop-condition-item.is c.requires.fit in
    omega (arith, c.width_of-own.ensures, (fit-here m (expression c.loop-condition-item.result.0) fit.0).some)

pub arm_cells-overflow_add-own : goal.arm_cells-overflow_add-own
arm_cells-overflow_add-own t c =
    let m = module_facts c.args.scope.now in
    let fit = all_here (λ x. AreFit m x.0 × AreFit m x.1) arm_view c.args.all.now c.loop-condition.condition-index c.loop-condition-item.result c.loop-condition-test.true c.loop-condition-item.is c.requires.fit in
    omega (arith, c.width_of-own.ensures, (fit-here m (expression c.loop-condition-item.result.0) fit.0).bounded, c.requires.width)

pub arm_cells-loop-condition-preserved : goal.arm_cells-loop-condition-preserved
arm_cells-loop-condition-preserved t c =
    let m = module_facts c.args.scope.now in
    let condition = expression c.loop-condition-item.result.0 in
    let value = expression c.loop-condition-item.result.1 in
    let own = own_width (ranges_in m) condition in
    let fit = all_here (λ x. AreFit m x.0 × AreFit m x.1) arm_view c.args.all.now c.loop-condition.condition-index c.loop-condition-item.result c.loop-condition-test.true c.loop-condition-item.is c.requires.fit in
    let rest : c.from.result ≡ (own - 1) + c.args.width = c.from.ensures ∙ ap (λ n. (n - 1) + c.args.width) c.width_of-own.ensures in
    share-more (arm_cells (ranges_in m) c.args.width) arm_view c.args.all.now c.loop-condition.condition-index c.loop-condition-item.result (2 ^ 64 - 1)
    c.loop-condition.total c.saturating_add.result c.saturating_add-total.result c.loop-condition-test.true c.loop-condition-item.is c.loop-condition.invariant
    (arm-share (2 ^ 64 - 1) (own_cells (ranges_in m) condition) (cell_count (ranges_in m) value c.args.width) own c.args.width c.cells_at.result c.cells_at-in-loop-condition.result c.saturating_add-inner.result c.saturating_add.result
    (c.cells_at.ensures ∙ ap (λ n. capped (cell_count (ranges_in m) condition n)) c.width_of-own.ensures) c.cells_at-in-loop-condition.ensures c.saturating_add-inner.ensures
    (omega (arith, (fit-here m condition fit.0).bounded, c.requires.width)) (subst (λ n. c.saturating_add.result ≡ min (c.saturating_add-inner.result + n) (2 ^ 64 - 1)) rest c.saturating_add.ensures))
    c.saturating_add-total.ensures

pub arm_cells-returns : goal.arm_cells-returns
arm_cells-returns t c =
    share-all (arm_cells (ranges_in (module_facts c.args.scope.now)) c.args.width) arm_view c.args.all.now c.loop-condition.condition-index (2 ^ 64 - 1) c.loop-condition.total c.loop-condition-test.false c.loop-condition.invariant

pub part_cells-loop-part-preserved : goal.part_cells-loop-part-preserved
part_cells-loop-part-preserved t c =
    let m = module_facts c.args.scope.now in
    share-more (own_cells (ranges_in m)) expression c.args.all.now c.loop-part.part-index c.part-item.result (2 ^ 64 - 1)
    c.loop-part.total c.cells_at.result c.saturating_add-total.result c.loop-part-test.true c.part-item.is c.loop-part.invariant
    (c.cells_at.ensures ∙ ap (λ n. capped (cell_count (ranges_in m) (expression c.part-item.result) n)) c.width_of-own.ensures) c.saturating_add-total.ensures

pub part_cells-width_of-own-requires : goal.part_cells-width_of-own-requires
part_cells-width_of-own-requires t c = record {
  fit = all_here (AreFit (module_facts c.args.scope.now)) expression c.args.all.now c.loop-part.part-index c.part-item.result c.loop-part-test.true c.part-item.is c.requires.fit;
}

pub part_cells-cells_at-requires : goal.part_cells-cells_at-requires
part_cells-cells_at-requires t c =
    let m = module_facts c.args.scope.now in
    let fit = all_here (AreFit m) expression c.args.all.now c.loop-part.part-index c.part-item.result c.loop-part-test.true c.part-item.is c.requires.fit in
    (search (rules, the_lemmas), (fit, omega (arith, c.width_of-own.ensures, (fit-here m (expression c.part-item.result) fit).bounded)))

pub part_cells-returns : goal.part_cells-returns
part_cells-returns t c =
    share-all (own_cells (ranges_in (module_facts c.args.scope.now))) expression c.args.all.now c.loop-part.part-index (2 ^ 64 - 1) c.loop-part.total c.loop-part-test.false c.loop-part.invariant

-- reductions
pub cells_at-width_of-own-requires : goal.cells_at-width_of-own-requires
cells_at-width_of-own-requires t c =
    let m = module_facts c.args.scope.now in
    record {
      fit = subst (λ e. AreFit m (expression e)) (sym c.deref-in-Fold.ensures)
          (fit-folded m c.in-Fold.op (expression c.in-Fold.operand.value) (subst (AreFit m) (expression-fold c.args.expr.now c.in-Fold.op c.in-Fold.operand c.in-Fold.is) c.requires.fit));
    }

pub cells_at-cells_at-requires-in-Fold : goal.cells_at-cells_at-requires-in-Fold
cells_at-cells_at-requires-in-Fold t c =
    let m = module_facts c.args.scope.now in
    let fit = fit-folded m c.in-Fold.op (expression c.in-Fold.operand.value) (subst (AreFit m) (expression-fold c.args.expr.now c.in-Fold.op c.in-Fold.operand c.in-Fold.is) c.requires.fit) in
    let own : c.width_of-own.result ≡ own_width (ranges_in m) (expression c.in-Fold.operand.value) = c.width_of-own.ensures ∙ ap (λ e. own_width (ranges_in m) (expression e)) c.deref-in-Fold.ensures in
    (search (rules, the_lemmas), (subst (λ e. AreFit m (expression e)) (sym c.deref-in-Fold-2.ensures) fit, omega (arith, own, (fit-here m (expression c.in-Fold.operand.value) fit).bounded)))

-- operators on words
pub cells_at-width_of-own-requires-in-Words : goal.cells_at-width_of-own-requires-in-Words
cells_at-width_of-own-requires-in-Words t c =
    let m = module_facts c.args.scope.now in
    record {
      fit = subst (λ e. AreFit m (expression e)) (sym c.deref-in-Words.ensures)
          (fit-left m (expression c.in-Words.first.value) (map operand_view c.in-Words.rest.items)
          (subst (AreFit m) (expression-words c.args.expr.now c.in-Words.first c.in-Words.rest c.in-Words.is) c.requires.fit));
    }

pub cells_at-taken_at-requires-clause-fit : goal.cells_at-taken_at-requires-clause-fit
cells_at-taken_at-requires-clause-fit t c =
    let m = module_facts c.args.scope.now in
    subst (λ xs. All (λ x. AreFit m x.1) (map operand_view xs)) (sym c.deref-in-Words-3.ensures.value)
    (fit-words m (expression c.in-Words.first.value) (map operand_view c.in-Words.rest.items) (subst (AreFit m) (expression-words c.args.expr.now c.in-Words.first c.in-Words.rest c.in-Words.is) c.requires.fit))

pub cells_at-cells_at-left-requires : goal.cells_at-cells_at-left-requires
cells_at-cells_at-left-requires t c =
    let m = module_facts c.args.scope.now in
    let ranges = ranges_in m in
    let e = expression c.in-Words.first.value in
    let xs = map operand_view c.in-Words.rest.items in
    let fit = subst (AreFit m) (expression-words c.args.expr.now c.in-Words.first c.in-Words.rest c.in-Words.is) c.requires.fit in
    let own : c.width_of-own-in-Words.result ≡ own_width ranges e = c.width_of-own-in-Words.ensures ∙ ap (λ y. own_width ranges (expression y)) c.deref-in-Words.ensures in
    let at : c.taken_at.result ≡ taken ranges c.width_of-own-in-Words.result xs c.args.width
    = c.taken_at.ensures ∙ ap (λ ys. taken ranges c.width_of-own-in-Words.result (map operand_view ys) c.args.width) c.deref-in-Words-3.ensures.value in (
      search (rules, the_lemmas),
      (
        subst (λ y. AreFit m (expression y)) (sym c.deref-in-Words-2.ensures) (fit-left m e xs fit),
        (level-most m e xs c.args.width c.width_of-own-in-Words.result c.taken_at.result fit c.requires.width own at).1,
      ),
    )

pub cells_at-level_cells-requires : goal.cells_at-level_cells-requires
cells_at-level_cells-requires t c =
    let m = module_facts c.args.scope.now in
    let ranges = ranges_in m in
    let e = expression c.in-Words.first.value in
    let xs = map operand_view c.in-Words.rest.items in
    let fit = subst (AreFit m) (expression-words c.args.expr.now c.in-Words.first c.in-Words.rest c.in-Words.is) c.requires.fit in
    let own : c.width_of-own-in-Words.result ≡ own_width ranges e = c.width_of-own-in-Words.ensures ∙ ap (λ y. own_width ranges (expression y)) c.deref-in-Words.ensures in
    let at : c.taken_at.result ≡ taken ranges c.width_of-own-in-Words.result xs c.args.width
    = c.taken_at.ensures ∙ ap (λ ys. taken ranges c.width_of-own-in-Words.result (map operand_view ys) c.args.width) c.deref-in-Words-3.ensures.value in (
      search (rules, the_lemmas),
      (
        subst (λ ys. All (λ x. AreFit m x.1) (map operand_view ys)) (sym c.deref-in-Words-4.ensures.value) (fit-words m e xs fit),
        (
          subst (λ ys. IsOneLevel (word_operands (map operand_view ys))) (sym c.deref-in-Words-4.ensures.value) (fit-here m (Words e (word_operands xs)) fit).right,
          ((level-most m e xs c.args.width c.width_of-own-in-Words.result c.taken_at.result fit c.requires.width own at).0, c.requires.width),
        ),
      ),
    )

pub cells_at-returns-in-Words : goal.cells_at-returns-in-Words
cells_at-returns-in-Words t c =
    let m = module_facts c.args.scope.now in
    let ranges = ranges_in m in
    let w = c.args.width in
    let e = expression c.in-Words.first.value in
    let xs = map operand_view c.in-Words.rest.items in
    let l = own_width ranges e in
    let own : c.width_of-own-in-Words.result ≡ l = c.width_of-own-in-Words.ensures ∙ ap (λ y. own_width ranges (expression y)) c.deref-in-Words.ensures in
    let at : c.taken_at.result ≡ taken ranges l xs w
    = c.taken_at.ensures ∙ ap₂ (λ k ys. taken ranges k (map operand_view ys) w) own c.deref-in-Words-3.ensures.value in
    two-shares (2 ^ 64 - 1) (cell_count ranges e (taken ranges l xs w)) (words_cells ranges l xs w) c.cells_at-left.result c.level_cells.result c.saturating_add-in-Words.result
    (c.cells_at-left.ensures ∙ ap₂ (λ y k. capped (cell_count ranges (expression y) k)) c.deref-in-Words-2.ensures at)
    (c.level_cells.ensures ∙ ap₂ (λ k ys. capped (words_cells ranges k (map operand_view ys) w)) own c.deref-in-Words-4.ensures.value)
    c.saturating_add-in-Words.ensures
    ∙ ap capped (sym (ap (λ y. cell_count ranges y w) (expression-words c.args.expr.now c.in-Words.first c.in-Words.rest c.in-Words.is) ∙ words-cells ranges e xs w))

pub level_cells-widths_at-at-requires-clause-operand : goal.level_cells-widths_at-at-requires-clause-operand
level_cells-widths_at-at-requires-clause-operand t c =
    all_here (λ x. AreFit (module_facts c.args.scope.now) x.1) operand_view c.args.rest.now c.loop-op.op-index c.loop-op-item.result c.loop-op-test.true c.loop-op-item.is c.requires.fit

pub level_cells-cells_at-inner-requires : goal.level_cells-cells_at-inner-requires
level_cells-cells_at-inner-requires t c = (
  -- an element of the list nests no deeper than the whole list
  omega (
    arith,
    c.decreases,
    at_most (λ x. weighed-Expr-Words-1-at-2.weight Expr the_size x) c.args.rest.now c.loop-op.op-index c.loop-op-item.result c.loop-op-test.true,
    ap (λ x. weighed-Expr-Words-1-at-2.weight Expr the_size x) c.loop-op-item.is,
  ),
  let m = module_facts c.args.scope.now in
      let x = c.loop-op-item.result in
      let context : c.widths_at-at.result.context ≡ taken (ranges_in m) c.widths_at-at.result.own (map operand_view (drop (c.loop-op.op-index + 1) c.args.rest.now)) c.args.width
      = c.widths_at-at.ensures.context ∙ ap (λ k. taken (ranges_in m) c.widths_at-at.result.own (map operand_view (drop (k + 1) c.args.rest.now)) c.args.width) c.loop-op.invariant.next in
      let most = here-most m operand_view c.args.rest.now c.loop-op.op-index x c.args.width c.loop-op.own (own_width (ranges_in m) (expression x.1)) c.widths_at-at.result.own c.widths_at-at.result.context
      c.requires.fit c.loop-op-test.true c.loop-op-item.is c.loop-op.invariant.bounded c.requires.width refl c.widths_at-at.ensures.own context in (
        all_here (λ x. AreFit m x.1) operand_view c.args.rest.now c.loop-op.op-index x c.loop-op-test.true c.loop-op-item.is c.requires.fit,
        omega (arith, c.widths_at-at.ensures.second, second-most x.0 c.loop-op.own (own_width (ranges_in m) (expression x.1)) c.widths_at-at.result.context 65536 c.loop-op.invariant.bounded most.0 most.2),
      ),
)

pub level_cells-word_cells-requires-clause-left : goal.level_cells-word_cells-requires-clause-left
level_cells-word_cells-requires-clause-left t c =
    let m = module_facts c.args.scope.now in
    let x = c.loop-op-item.result in
    let context : c.widths_at-at.result.context ≡ taken (ranges_in m) c.widths_at-at.result.own (map operand_view (drop (c.loop-op.op-index + 1) c.args.rest.now)) c.args.width
    = c.widths_at-at.ensures.context ∙ ap (λ k. taken (ranges_in m) c.widths_at-at.result.own (map operand_view (drop (k + 1) c.args.rest.now)) c.args.width) c.loop-op.invariant.next in
    let most = here-most m operand_view c.args.rest.now c.loop-op.op-index x c.args.width c.loop-op.own (own_width (ranges_in m) (expression x.1)) c.widths_at-at.result.own c.widths_at-at.result.context
    c.requires.fit c.loop-op-test.true c.loop-op-item.is c.loop-op.invariant.bounded c.requires.width refl c.widths_at-at.ensures.own context in
    omega (arith, c.widths_at-at.ensures.first, first-most x.0 c.loop-op.own (own_width (ranges_in m) (expression x.1)) c.widths_at-at.result.context 65536 c.loop-op.invariant.bounded most.0 most.2)

pub level_cells-word_cells-requires-clause-right : goal.level_cells-word_cells-requires-clause-right
level_cells-word_cells-requires-clause-right t c =
    let m = module_facts c.args.scope.now in
    let x = c.loop-op-item.result in
    let context : c.widths_at-at.result.context ≡ taken (ranges_in m) c.widths_at-at.result.own (map operand_view (drop (c.loop-op.op-index + 1) c.args.rest.now)) c.args.width
    = c.widths_at-at.ensures.context ∙ ap (λ k. taken (ranges_in m) c.widths_at-at.result.own (map operand_view (drop (k + 1) c.args.rest.now)) c.args.width) c.loop-op.invariant.next in
    let most = here-most m operand_view c.args.rest.now c.loop-op.op-index x c.args.width c.loop-op.own (own_width (ranges_in m) (expression x.1)) c.widths_at-at.result.own c.widths_at-at.result.context
    c.requires.fit c.loop-op-test.true c.loop-op-item.is c.loop-op.invariant.bounded c.requires.width refl c.widths_at-at.ensures.own context in
    omega (arith, c.widths_at-at.ensures.second, second-most x.0 c.loop-op.own (own_width (ranges_in m) (expression x.1)) c.widths_at-at.result.context 65536 c.loop-op.invariant.bounded most.0 most.2)

pub level_cells-loop-op-preserved : goal.level_cells-loop-op-preserved
level_cells-loop-op-preserved t c =
    let m = module_facts c.args.scope.now in
    let ranges = ranges_in m in
    let i = c.loop-op.op-index in
    let x = c.loop-op-item.result in
    let w = c.args.width in
    let rest = c.args.rest.now in
    let l = c.loop-op.own in
    let first = c.widths_at-at.result.first in
    let second = c.widths_at-at.result.second in
    let context : c.widths_at-at.result.context ≡ taken (ranges_in m) c.widths_at-at.result.own (map operand_view (drop (c.loop-op.op-index + 1) c.args.rest.now)) c.args.width
    = c.widths_at-at.ensures.context ∙ ap (λ k. taken (ranges_in m) c.widths_at-at.result.own (map operand_view (drop (k + 1) c.args.rest.now)) c.args.width) c.loop-op.invariant.next in
    let most = here-most m operand_view rest i x w l (own_width (ranges_in m) (expression x.1)) c.widths_at-at.result.own c.widths_at-at.result.context
    c.requires.fit c.loop-op-test.true c.loop-op-item.is c.loop-op.invariant.bounded c.requires.width refl c.widths_at-at.ensures.own context in
    let cells = cells-here ranges operand_view rest i x w l (own_width (ranges_in m) (expression x.1)) c.widths_at-at.result.own c.widths_at-at.result.context first second c.loop-op-test.true c.loop-op-item.is
    refl c.widths_at-at.ensures.own context c.widths_at-at.ensures.first c.widths_at-at.ensures.second in
    record {
      next = ap (λ k. k + 1) c.loop-op.invariant.next;
      bounded = most.1;
      all = level-share (2 ^ 64 - 1) (cell_count ranges (expression x.1) second) (word_cells x.0 first second) c.loop-op.total c.cells_at-inner.result c.saturating_add.result c.saturating_add-total.result
          (words_cells ranges c.widths_at-at.result.own (map operand_view (drop (i + 1) rest)) w) (capped (words_cells ranges c.args.left (map operand_view rest) w))
          c.cells_at-inner.ensures (c.saturating_add.ensures ∙ ap (λ n. min (c.cells_at-inner.result + n) (2 ^ 64 - 1)) c.word_cells.ensures) c.saturating_add-total.ensures
          (ap (λ n. capped (c.loop-op.total + n)) (sym cells) ∙ c.loop-op.invariant.all);
      total = omega (arith, c.saturating_add-total.ensures);
    }
