-- What each operand needs, and what its steps make beside those before.
use Rattle.std.proofs.Common.{◌≡◌, false, ◌+◌, ◌-◌, ◌<◌, ◌≤◌, [], ◌∷◌, ◌++◌, map, take, drop, length, refl, sym, ap, ap₂, ◌∙◌, subst, arith, rules}
use Rattle.std.specs.Prelude.{◌*◌, sum_by, IfOk}
use Rattle.std.proofs.lemmas.List.{at_drop_all, take_all, map_more}
use Rattle.std.proofs.lemmas.List.Sums.{sum-map}
use Rattle.std.proofs.lemmas.Result.{IfOk-weaker}
use Rattle.std.specs.Prelude.{All, ◌^◌}
use Rattle.std.proofs.lemmas.List.Elements.{All-head}
use Rattle.bb_ast.specs.Syntax.{Sized, Not, Fold, Chain, Cond, Concat, Repeat, operands, arms, listed_parts}
use Rattle.bb_word.specs.Words.{word_cells}
use Rattle.bb_word.specs.Meanings.{word_width}
use Rattle.bb_word.specs.Folds.{fold_cells}
use Rattle.bb_expr.specs.Inside.Growing.{most_steps}
use Rattle.bb_expr.specs.Inside.Levels.{AreReady, taken, words_on}
use Rattle.bb_expr.proofs.LevelLemmas.{words-made}
use Rattle.bb_expr.proofs.ReadyLemmas.{ready-step, requested-left, requested-ready, requested-folded, are-widths, IsWorded, words-more, words-ended}
use Rattle.bb_expr.proofs.Loops.{rest-here}
use Rattle.bb_ast.specs.Inside.Views.{expression, operand_view, arm_view}
use Rattle.bb_ast.specs.declared.expr.Expr.{the_lemmas}
use Rattle.bb_names.specs.Inside.Checked.{module_facts}
use Rattle.bb_names.specs.Ranges.{distance, place_of}
use Rattle.bb_names.specs.Widths.{own_width}
use Rattle.bb_expr.specs.Cells.{made, without_cells, net_terms, op_cells, cell_count}
use Rattle.bb_expr.specs.Inside.Fit.{AreFit, ranges_in}
use Rattle.bb_expr.specs.Inside.Growing.{Adds, beside, chained_on, arms_on, word_joined, fold_joined}
use Rattle.bb_expr.specs.Lists.{extended, copies}
use Rattle.bb_expr.specs.Inside.Shares.{own_cells, operand_cells, arm_cells}
use Rattle.bb_expr.specs.Terms.{Const}
use Rattle.bb_expr.proofs.ViewLemmas.{expression-net, expression-bit, expression-part, expression-sized, expression-plain, expression-not, expression-chain, expression-cond, expression-concat, expression-repeat, expression-fold, expression-words}
use Rattle.bb_expr.proofs.ValueLemmas.{length-copies}
use Rattle.bb_expr.proofs.OperandLemmas.{fit-folded, fit-left, fit-words, fit-here, fit-first, fit-operands, fit-arms, fit-last, fit-parts, fit-copied}
use Rattle.bb_expr.proofs.RequestLemmas.{IsRequired, requested-not, requested-odd, requested-first, requested-operands, requested-chain, requested-arms, requested-last, requested-cond, requested-concat, requested-repeat}
use Rattle.bb_lemmas.proofs.Turns.{all_here}
use Rattle.bb_expr.proofs.Loops.{sum-here, last-share}
use Rattle.bb_expr.proofs.ShareLemmas.{one-share}
use Rattle.bb_expr.proofs.OperatorLemmas.{op-some}
use Rattle.bb_expr.proofs.RowLemmas.{adds-nothing}
use Rattle.bb_expr.proofs.ChoiceLemmas.{adds-copied, copies-cover}
use Rattle.bb_expr.proofs.WalkLemmas.{chain-made, cond-made, arm-more, before, none-left, chain-more, chain-ended, bits-long, steps-few, parts-few, part-more, concat-made, repeat-made, not-odd, not-even}
use denote.Param.Weighed.{at_most}
use Rattle.bb_ast.specs.declared.expr.Expr.TheShapes.{weighed-Expr-Words-1-at-2}
use Rattle.bb_ast.proofs.expr.Expr.TheLaws.{the_size}
use Rattle.bb_ast.specs.declared.expr.Expr.{Expr}
use Rattle.bb_expr.proofs.lowering.+lowering.Goals as goal

-- a run of signs
pub lower_at-lower_at-requires : goal.lower_at-lower_at-requires
lower_at-lower_at-requires t c =
    let m = module_facts c.args.scope.now in
    let view : expression c.args.expr.now ≡ Not c.in-Not.count (expression c.deref-in-Not.result.now)
    = expression-not c.args.expr.now c.in-Not.count c.in-Not.operand c.in-Not.is ∙ ap (λ e. Not c.in-Not.count (expression e)) (sym c.deref-in-Not.ensures) in
    let requested = requested-not m c.in-Not.count (expression c.deref-in-Not.result.now) c.args.width (length c.args.steps.now.items)
    (subst (λ e. IsRequired m e c.args.width (length c.args.steps.now.items)) view (record { fit = c.requires.fit; own = c.requires.own; room = c.requires.room; few = c.requires.few })) in
    (search (rules, the_lemmas), (requested.fit, (requested.own, (c.requires.width, (requested.room, requested.few)))))

pub lower_at-inverted-requires : goal.lower_at-inverted-requires
lower_at-inverted-requires t c =
    let m = module_facts c.args.scope.now in
    let e = expression c.deref-in-Not.result.now in
    let view : expression c.args.expr.now ≡ Not c.in-Not.count e
    = expression-not c.args.expr.now c.in-Not.count c.in-Not.operand c.in-Not.is ∙ ap (λ e. Not c.in-Not.count (expression e)) (sym c.deref-in-Not.ensures) in
    let whole = subst (λ e. IsRequired m e c.args.width (length c.args.steps.now.items)) view (record { fit = c.requires.fit; own = c.requires.own; room = c.requires.room; few = c.requires.few }) in
    let requested = requested-not m c.in-Not.count e c.args.width (length c.args.steps.now.items) whole in
    let odd = sym c.is_odd.ensures ∙ c.if-is_odd.true in
    omega (
      arith,
      requested-odd m c.in-Not.count e c.args.width (length c.args.steps.now.items) odd whole,
      steps-few c.args.scope.now.nets.items (ranges_in m) e c.args.width c.args.steps.now.items c.lower_at.new.steps.items c.in_ok-bits-in-Not.bits.items requested.own c.in_ok-bits-in-Not.ensures,
      bits-long c.args.scope.now.nets.items (ranges_in m) e c.args.width c.args.steps.now.items c.lower_at.new.steps.items c.in_ok-bits-in-Not.bits.items requested.own c.in_ok-bits-in-Not.ensures,
      ap length c.deref-then-is_odd.ensures.value,
    )

pub lower_at-returns-then-is_odd : goal.lower_at-returns-then-is_odd
lower_at-returns-then-is_odd t c =
    let m = module_facts c.args.scope.now in
    let e = expression c.deref-in-Not.result.now in
    let nets = c.args.scope.now.nets.items in
    let old = c.args.steps.now.items in
    let view : expression c.args.expr.now ≡ Not c.in-Not.count e
    = expression-not c.args.expr.now c.in-Not.count c.in-Not.operand c.in-Not.is ∙ ap (λ e. Not c.in-Not.count (expression e)) (sym c.deref-in-Not.ensures) in
    IfOk-weaker c.inverted.result _ _
    (λ bits h. subst (λ x. Adds nets (made (ranges_in m) x c.args.width) old c.inverted.new.steps.items bits.items) (sym view)
    (not-odd nets (ranges_in m) c.in-Not.count e c.args.width old c.inverted.new.steps.items bits.items (sym c.is_odd.ensures ∙ c.if-is_odd.true) h))
    (c.inverted.ensures.made nets (made (ranges_in m) e c.args.width) old
    (subst (Adds nets (made (ranges_in m) e c.args.width) old c.lower_at.new.steps.items) (sym c.deref-then-is_odd.ensures.value) c.in_ok-bits-in-Not.ensures))

pub lower_at-returns-else-is_odd : goal.lower_at-returns-else-is_odd
lower_at-returns-else-is_odd t c =
    let m = module_facts c.args.scope.now in
    let e = expression c.deref-in-Not.result.now in
    let view : expression c.args.expr.now ≡ Not c.in-Not.count e
    = expression-not c.args.expr.now c.in-Not.count c.in-Not.operand c.in-Not.is ∙ ap (λ e. Not c.in-Not.count (expression e)) (sym c.deref-in-Not.ensures) in
    subst (λ x. Adds c.args.scope.now.nets.items (made (ranges_in m) x c.args.width) c.args.steps.now.items c.lower_at.new.steps.items c.in_ok-bits-in-Not.bits.items) (sym view)
    (not-even c.args.scope.now.nets.items (ranges_in m) c.in-Not.count e c.args.width c.args.steps.now.items c.lower_at.new.steps.items c.in_ok-bits-in-Not.bits.items (sym c.is_odd.ensures ∙ c.if-is_odd.false) c.in_ok-bits-in-Not.ensures)

-- nets and numbers
pub lower_at-returns-in-Net : goal.lower_at-returns-in-Net
lower_at-returns-in-Net t c =
    subst (λ x. IfOk c.net.result (λ bits. Adds c.args.scope.now.nets.items (made (ranges_in (module_facts c.args.scope.now)) x c.args.width) c.args.steps.now.items c.net.new.steps.items bits.items))
    (sym (expression-net c.args.expr.now c.in-Net.name c.in-Net.is)) c.net.ensures

pub lower_at-returns-in-Bit : goal.lower_at-returns-in-Bit
lower_at-returns-in-Bit t c =
    let ranges = ranges_in (module_facts c.args.scope.now) in
    let nets = c.args.scope.now.nets.items in
    let i = c.in-Bit.index in
    let one : distance i i + 1 ≡ 1 = omega arith in
    subst (λ x. IfOk c.part.result (λ bits. Adds nets (made ranges x c.args.width) c.args.steps.now.items c.part.new.steps.items bits.items)) (sym (expression-bit c.args.expr.now c.in-Bit.name i c.in-Bit.is))
    (subst (λ k. IfOk c.part.result (λ bits. Adds nets (without_cells (extended (Const false) c.args.width (net_terms c.in-Bit.name (place_of (ranges c.in-Bit.name) i) k))) c.args.steps.now.items c.part.new.steps.items bits.items)) one c.part.ensures)

pub lower_at-returns-in-Part : goal.lower_at-returns-in-Part
lower_at-returns-in-Part t c =
    subst (λ x. IfOk c.part-in-Part.result (λ bits. Adds c.args.scope.now.nets.items (made (ranges_in (module_facts c.args.scope.now)) x c.args.width) c.args.steps.now.items c.part-in-Part.new.steps.items bits.items))
    (sym (expression-part c.args.expr.now c.in-Part.name c.in-Part.left c.in-Part.right c.in-Part.is)) c.part-in-Part.ensures

pub lower_at-returns-in-Sized : goal.lower_at-returns-in-Sized
lower_at-returns-in-Sized t c =
    let nets = c.args.scope.now.nets.items in
    subst (λ x. IfOk c.number.result (λ bits. Adds nets (made (ranges_in (module_facts c.args.scope.now)) x c.args.width) c.args.steps.now.items c.number.new.steps.items bits.items))
    (sym (expression-sized c.args.expr.now c.in-Sized.bits c.in-Sized.is ∙ ap Sized (sym c.deref.ensures.value))) (c.number.ensures nets)

pub lower_at-returns-in-Plain : goal.lower_at-returns-in-Plain
lower_at-returns-in-Plain t c =
    let nets = c.args.scope.now.nets.items in
    subst (λ x. IfOk c.plain_number.result (λ bits. Adds nets (made (ranges_in (module_facts c.args.scope.now)) x c.args.width) c.args.steps.now.items c.plain_number.new.steps.items bits.items))
    (sym (expression-plain c.args.expr.now c.in-Plain.value c.in-Plain.is)) (c.plain_number.ensures nets)

-- chains
pub lower_at-lower_at-requires-in-Chain : goal.lower_at-lower_at-requires-in-Chain
lower_at-lower_at-requires-in-Chain t c =
    let m = module_facts c.args.scope.now in
    let e = expression c.deref-in-Chain.result.now in
    let xs = map operand_view c.in-Chain.rest.items in
    let n = length c.args.steps.now.items in
    let view : expression c.args.expr.now ≡ Chain e (operands xs)
    = expression-chain c.args.expr.now c.in-Chain.first c.in-Chain.rest c.in-Chain.is ∙ ap (λ e. Chain (expression e) (operands xs)) (sym c.deref-in-Chain.ensures) in
    let whole = subst (λ e. IsRequired m e c.args.width n) view (record { fit = c.requires.fit; own = c.requires.own; room = c.requires.room; few = c.requires.few }) in
    (search (rules, the_lemmas), (fit-first m e xs whole.fit, (requested-first m e xs c.args.width n whole, (c.requires.width, (omega (arith, (requested-chain m e xs c.args.width n whole).0), omega (arith, (requested-chain m e xs c.args.width n whole).1))))))

pub lower_at-chain-requires : goal.lower_at-chain-requires
lower_at-chain-requires t c =
    let m = module_facts c.args.scope.now in
    let e = expression c.deref-in-Chain.result.now in
    let xs = map operand_view c.deref-in-Chain-2.result.now in
    let n = length c.args.steps.now.items in
    let nets = c.args.scope.now.nets.items in
    let view : expression c.args.expr.now ≡ Chain e (operands xs)
    = expression-chain c.args.expr.now c.in-Chain.first c.in-Chain.rest c.in-Chain.is ∙ ap₂ (λ e ys. Chain (expression e) (operands (map operand_view ys))) (sym c.deref-in-Chain.ensures) (sym c.deref-in-Chain-2.ensures.value) in
    let whole = subst (λ e. IsRequired m e c.args.width n) view (record { fit = c.requires.fit; own = c.requires.own; room = c.requires.room; few = c.requires.few }) in
    let own = requested-first m e xs c.args.width n whole in (
      search (rules, the_lemmas),
      (
        fit-operands m e xs whole.fit,
        (
          requested-operands m e xs c.args.width n whole,
          (
            c.requires.width,
            (
              bits-long nets (ranges_in m) e c.args.width c.args.steps.now.items c.lower_at-in-Chain.new.steps.items c.in_ok-bits-in-Chain.bits.items own c.in_ok-bits-in-Chain.ensures,
              (
                omega (
                  arith,
                  (requested-chain m e xs c.args.width n whole).0,
                  steps-few nets (ranges_in m) e c.args.width c.args.steps.now.items c.lower_at-in-Chain.new.steps.items c.in_ok-bits-in-Chain.bits.items own c.in_ok-bits-in-Chain.ensures,
                ),
                omega (arith, (requested-chain m e xs c.args.width n whole).1),
              ),
            ),
          ),
        ),
      ),
    )

pub lower_at-returns-in_ok-bits-in-Chain : goal.lower_at-returns-in_ok-bits-in-Chain
lower_at-returns-in_ok-bits-in-Chain t c =
    let ranges = ranges_in (module_facts c.args.scope.now) in
    let e = expression c.deref-in-Chain.result.now in
    let xs = map operand_view c.deref-in-Chain-2.result.now in
    let view : expression c.args.expr.now ≡ Chain e (operands xs)
    = expression-chain c.args.expr.now c.in-Chain.first c.in-Chain.rest c.in-Chain.is ∙ ap₂ (λ e ys. Chain (expression e) (operands (map operand_view ys))) (sym c.deref-in-Chain.ensures) (sym c.deref-in-Chain-2.ensures.value) in
    subst (λ p. IfOk c.chain.result (λ bits. Adds c.args.scope.now.nets.items p c.args.steps.now.items c.chain.new.steps.items bits.items)) (sym (ap (λ x. made ranges x c.args.width) view ∙ chain-made ranges c.args.width e xs))
    (c.chain.ensures (made ranges e c.args.width) c.args.steps.now.items c.in_ok-bits-in-Chain.ensures)

pub chain-lower_at-requires : goal.chain-lower_at-requires
chain-lower_at-requires t c =
    let m = module_facts c.args.scope.now in
    let i = c.loop-op.op-index in
    let x = c.loop-op-item.result in (
      search (rules, the_lemmas),
      (
        all_here (λ x. AreFit m x.1) operand_view c.args.rest.now i x c.loop-op-test.true c.loop-op-item.is c.requires.fit,
        (
          all_here (λ x. own_width (ranges_in m) x.1 ≤ c.args.width) operand_view c.args.rest.now i x c.loop-op-test.true c.loop-op-item.is c.requires.owns,
          (
            c.requires.width,
            (
              omega (arith, c.loop-op.invariant.room, sum-here (operand_cells (ranges_in m) c.args.width) operand_view c.args.rest.now i x c.loop-op-test.true c.loop-op-item.is, op-some x.0 c.args.width),
              omega (arith, c.requires.few, one-share (operand_cells (ranges_in m) c.args.width) operand_view c.args.rest.now i x c.loop-op-test.true c.loop-op-item.is),
            ),
          ),
        ),
      ),
    )

pub chain-operate-requires-clause-same : goal.chain-operate-requires-clause-same
chain-operate-requires-clause-same t c =
    let m = module_facts c.args.scope.now in
    let x = c.loop-op-item.result in
    let own = all_here (λ x. own_width (ranges_in m) x.1 ≤ c.args.width) operand_view c.args.rest.now c.loop-op.op-index x c.loop-op-test.true c.loop-op-item.is c.requires.owns in
    ap length c.deref.ensures.value ∙ c.loop-op.invariant.width
    ∙ sym (ap length c.deref-in-loop-op.ensures.value ∙ bits-long c.args.scope.now.nets.items (ranges_in m) (expression x.1) c.args.width c.loop-op.steps.items c.lower_at.new.steps.items c.in_ok-right.right.items own c.in_ok-right.ensures)

pub chain-operate-requires-clause-room : goal.chain-operate-requires-clause-room
chain-operate-requires-clause-room t c =
    let m = module_facts c.args.scope.now in
    let i = c.loop-op.op-index in
    let x = c.loop-op-item.result in
    let own = all_here (λ x. own_width (ranges_in m) x.1 ≤ c.args.width) operand_view c.args.rest.now i x c.loop-op-test.true c.loop-op-item.is c.requires.owns in
    omega (
      arith,
      c.loop-op.invariant.room,
      sum-here (operand_cells (ranges_in m) c.args.width) operand_view c.args.rest.now i x c.loop-op-test.true c.loop-op-item.is,
      op-some x.0 c.args.width,
      ap (λ n. op_cells x.0 * n) (ap length c.deref.ensures.value ∙ c.loop-op.invariant.width),
      steps-few c.args.scope.now.nets.items (ranges_in m) (expression x.1) c.args.width c.loop-op.steps.items c.lower_at.new.steps.items c.in_ok-right.right.items own c.in_ok-right.ensures,
    )

pub chain-loop-op-init : goal.chain-loop-op-init
chain-loop-op-init t c = record {
  made = λ m old adds. record { so_far = m; adds = adds; all = refl };
  width = c.requires.first;
  room = c.requires.room;
}

pub chain-loop-op-preserved : goal.chain-loop-op-preserved
chain-loop-op-preserved t c =
    let m = module_facts c.args.scope.now in
    let ranges = ranges_in m in
    let nets = c.args.scope.now.nets.items in
    let i = c.loop-op.op-index in
    let x = c.loop-op-item.result in
    let w = c.args.width in
    let own = all_here (λ x. own_width ranges x.1 ≤ w) operand_view c.args.rest.now i x c.loop-op-test.true c.loop-op-item.is c.requires.owns in
    record {
      made = λ first old adds.
          chain-more nets ranges operand_view w c.args.rest.now i x (chained_on ranges w first (map operand_view c.args.rest.now)) old c.loop-op.steps.items c.lower_at.new.steps.items c.operate.new.steps.items
          c.loop-op.bits.items c.in_ok-right.right.items c.in_ok-bits.bits.items c.loop-op-test.true c.loop-op-item.is (c.loop-op.invariant.made first old adds) c.in_ok-right.ensures
          (λ p q a b. c.in_ok-bits.ensures.made nets p q old c.loop-op.steps.items
          (subst (Adds nets p old c.loop-op.steps.items) (sym c.deref.ensures.value) a) (subst (Adds nets q c.loop-op.steps.items c.lower_at.new.steps.items) (sym c.deref-in-loop-op.ensures.value) b));
      width = c.in_ok-bits.ensures.count ∙ ap length c.deref.ensures.value ∙ c.loop-op.invariant.width;
      room = omega (
        arith,
        c.loop-op.invariant.room,
        sum-here (operand_cells ranges w) operand_view c.args.rest.now i x c.loop-op-test.true c.loop-op-item.is,
        op-some x.0 w,
        ap (λ n. op_cells x.0 * n) (ap length c.deref.ensures.value ∙ c.loop-op.invariant.width),
        c.in_ok-bits.ensures.grown,
        steps-few nets ranges (expression x.1) w c.loop-op.steps.items c.lower_at.new.steps.items c.in_ok-right.right.items own c.in_ok-right.ensures,
      );
    }

pub chain-returns : goal.chain-returns
chain-returns t c = λ m old adds.
    chain-ended c.args.scope.now.nets.items (ranges_in (module_facts c.args.scope.now)) operand_view c.args.width c.args.rest.now c.loop-op.op-index _ old c.loop-op.steps.items c.loop-op.bits.items
    c.loop-op-test.false (c.loop-op.invariant.made m old adds)

-- conditionals
pub lower_at-lower_at-requires-in-Cond : goal.lower_at-lower_at-requires-in-Cond
lower_at-lower_at-requires-in-Cond t c =
    let m = module_facts c.args.scope.now in
    let e = expression c.deref-in-Cond.result.now in
    let xs = map arm_view c.in-Cond.all.items in
    let n = length c.args.steps.now.items in
    let view : expression c.args.expr.now ≡ Cond (arms xs) e
    = expression-cond c.args.expr.now c.in-Cond.all c.in-Cond.last c.in-Cond.is ∙ ap (λ e. Cond (arms xs) (expression e)) (sym c.deref-in-Cond.ensures) in
    let whole = subst (λ e. IsRequired m e c.args.width n) view (record { fit = c.requires.fit; own = c.requires.own; room = c.requires.room; few = c.requires.few }) in
    (search (rules, the_lemmas), (fit-last m xs e whole.fit, (requested-last m xs e c.args.width n whole, (c.requires.width, (omega (arith, (requested-cond m xs e c.args.width n whole).0), omega (arith, (requested-cond m xs e c.args.width n whole).1))))))

pub lower_at-conditional-requires : goal.lower_at-conditional-requires
lower_at-conditional-requires t c =
    let m = module_facts c.args.scope.now in
    let e = expression c.deref-in-Cond.result.now in
    let xs = map arm_view c.deref-in-Cond-2.result.now in
    let n = length c.args.steps.now.items in
    let nets = c.args.scope.now.nets.items in
    let view : expression c.args.expr.now ≡ Cond (arms xs) e
    = expression-cond c.args.expr.now c.in-Cond.all c.in-Cond.last c.in-Cond.is ∙ ap₂ (λ ys e. Cond (arms (map arm_view ys)) (expression e)) (sym c.deref-in-Cond-2.ensures.value) (sym c.deref-in-Cond.ensures) in
    let whole = subst (λ e. IsRequired m e c.args.width n) view (record { fit = c.requires.fit; own = c.requires.own; room = c.requires.room; few = c.requires.few }) in
    let own = requested-last m xs e c.args.width n whole in
    let some = (fit-here m e (fit-last m xs e whole.fit)).some in (
      search (rules, the_lemmas),
      (
        fit-arms m xs e whole.fit,
        (
          requested-arms m xs e c.args.width n whole,
          (
            c.requires.width,
            (
              omega (arith, some, own),
              (
                bits-long nets (ranges_in m) e c.args.width c.args.steps.now.items c.lower_at-in-Cond.new.steps.items c.in_ok-bits-in-Cond.bits.items own c.in_ok-bits-in-Cond.ensures,
                (
                  omega (
                    arith,
                    (requested-cond m xs e c.args.width n whole).0,
                    steps-few nets (ranges_in m) e c.args.width c.args.steps.now.items c.lower_at-in-Cond.new.steps.items c.in_ok-bits-in-Cond.bits.items own c.in_ok-bits-in-Cond.ensures,
                  ),
                  omega (arith, (requested-cond m xs e c.args.width n whole).1),
                ),
              ),
            ),
          ),
        ),
      ),
    )

pub lower_at-returns-in_ok-bits-in-Cond : goal.lower_at-returns-in_ok-bits-in-Cond
lower_at-returns-in_ok-bits-in-Cond t c =
    let ranges = ranges_in (module_facts c.args.scope.now) in
    let e = expression c.deref-in-Cond.result.now in
    let xs = map arm_view c.deref-in-Cond-2.result.now in
    let view : expression c.args.expr.now ≡ Cond (arms xs) e
    = expression-cond c.args.expr.now c.in-Cond.all c.in-Cond.last c.in-Cond.is ∙ ap₂ (λ ys e. Cond (arms (map arm_view ys)) (expression e)) (sym c.deref-in-Cond-2.ensures.value) (sym c.deref-in-Cond.ensures) in
    subst (λ p. IfOk c.conditional.result (λ bits. Adds c.args.scope.now.nets.items p c.args.steps.now.items c.conditional.new.steps.items bits.items)) (sym (ap (λ x. made ranges x c.args.width) view ∙ cond-made ranges c.args.width xs e))
    (c.conditional.ensures (made ranges e c.args.width) c.args.steps.now.items c.in_ok-bits-in-Cond.ensures)

pub conditional-loop-turn-init : goal.conditional-loop-turn-init
conditional-loop-turn-init t c =
    let ranges = ranges_in (module_facts c.args.scope.now) in
    let all = c.args.all.now in
    record {
      made = λ m old adds. subst (λ p. Adds c.args.scope.now.nets.items p old c.args.steps.now.items c.args.last.items) (sym (at_drop_all (λ ys. arms_on ranges c.args.width m (map arm_view ys)) all (length all - 0) (omega arith))) adds;
      width = c.requires.last;
      room = omega (arith, c.requires.room, ap (λ ys. sum_by (arm_cells ranges c.args.width) (map arm_view ys)) (take_all (length all - 0) all (omega arith)));
    }

pub conditional-width_of-own-requires : goal.conditional-width_of-own-requires
conditional-width_of-own-requires t c =
    let m = module_facts c.args.scope.now in
    let i = length c.args.all.now - 1 - c.loop-turn.turn in
    record { fit = (all_here (λ x. AreFit m x.0 × AreFit m x.1) arm_view c.args.all.now i c.index-all-all.result (omega (arith, c.loop-turn-test.true)) c.index-all-all.is c.requires.fit).0 }

pub conditional-lower_at-requires : goal.conditional-lower_at-requires
conditional-lower_at-requires t c =
    let m = module_facts c.args.scope.now in
    let all = c.args.all.now in
    let i = length all - 1 - c.loop-turn.turn in
    let x = c.index-all-all.result in
    let within : i < length all = omega (arith, c.loop-turn-test.true) in
    let fit = all_here (λ x. AreFit m x.0 × AreFit m x.1) arm_view all i x within c.index-all-all.is c.requires.fit in
    let here = fit-here m (expression x.0) fit.0 in
    let shares = last-share (arm_cells (ranges_in m) c.args.width) arm_view all c.loop-turn.turn x c.loop-turn-test.true c.index-all-all.is in (
      search (rules, the_lemmas),
      (
        fit.0,
        (
          omega (arith, c.width_of-own.ensures),
          (
            omega (arith, c.width_of-own.ensures, here.bounded),
            (
              omega (arith, c.loop-turn.invariant.room, shares, c.width_of-own.ensures, ap (λ n. cell_count (ranges_in m) (expression x.0) n) c.width_of-own.ensures, here.some, c.requires.some),
              omega (arith, c.requires.few, one-share (arm_cells (ranges_in m) c.args.width) arm_view all i x within c.index-all-all.is, ap (λ n. cell_count (ranges_in m) (expression x.0) n) c.width_of-own.ensures),
            ),
          ),
        ),
      ),
    )

pub conditional-any_bit-requires-clause-some : goal.conditional-any_bit-requires-clause-some
conditional-any_bit-requires-clause-some t c =
    let m = module_facts c.args.scope.now in
    let ranges = ranges_in m in
    let nets = c.args.scope.now.nets.items in
    let all = c.args.all.now in
    let i = length all - 1 - c.loop-turn.turn in
    let x = c.index-all-all.result in
    let w = c.args.width in
    let within : i < length all = omega (arith, c.loop-turn-test.true) in
    let fit = all_here (λ x. AreFit m x.0 × AreFit m x.1) arm_view all i x within c.index-all-all.is c.requires.fit in
    let here = fit-here m (expression x.0) fit.0 in
    let own = own_width ranges (expression x.0) in
    let tested : Adds nets (made ranges (expression x.0) own) c.loop-turn.steps.items c.lower_at.new.steps.items c.in_ok-tested.tested.items
    = subst (λ n. Adds nets (made ranges (expression x.0) n) c.loop-turn.steps.items c.lower_at.new.steps.items c.in_ok-tested.tested.items) c.width_of-own.ensures c.in_ok-tested.ensures in
    let count = ap length c.deref.ensures.value ∙ bits-long nets ranges (expression x.0) own c.loop-turn.steps.items c.lower_at.new.steps.items c.in_ok-tested.tested.items (omega arith) tested in
    omega (arith, count, here.some)

pub conditional-any_bit-requires-clause-room : goal.conditional-any_bit-requires-clause-room
conditional-any_bit-requires-clause-room t c =
    let m = module_facts c.args.scope.now in
    let ranges = ranges_in m in
    let nets = c.args.scope.now.nets.items in
    let all = c.args.all.now in
    let i = length all - 1 - c.loop-turn.turn in
    let x = c.index-all-all.result in
    let w = c.args.width in
    let within : i < length all = omega (arith, c.loop-turn-test.true) in
    let fit = all_here (λ x. AreFit m x.0 × AreFit m x.1) arm_view all i x within c.index-all-all.is c.requires.fit in
    let here = fit-here m (expression x.0) fit.0 in
    let own = own_width ranges (expression x.0) in
    let tested : Adds nets (made ranges (expression x.0) own) c.loop-turn.steps.items c.lower_at.new.steps.items c.in_ok-tested.tested.items
    = subst (λ n. Adds nets (made ranges (expression x.0) n) c.loop-turn.steps.items c.lower_at.new.steps.items c.in_ok-tested.tested.items) c.width_of-own.ensures c.in_ok-tested.ensures in
    let count = ap length c.deref.ensures.value ∙ bits-long nets ranges (expression x.0) own c.loop-turn.steps.items c.lower_at.new.steps.items c.in_ok-tested.tested.items (omega arith) tested in
    let few = steps-few nets ranges (expression x.0) own c.loop-turn.steps.items c.lower_at.new.steps.items c.in_ok-tested.tested.items (omega arith) tested in
    let shares = last-share (arm_cells ranges w) arm_view all c.loop-turn.turn x c.loop-turn-test.true c.index-all-all.is in
    omega (arith, count, few, shares, c.loop-turn.invariant.room, here.some, c.requires.some)

pub conditional-lower_at-requires-in-loop-turn : goal.conditional-lower_at-requires-in-loop-turn
conditional-lower_at-requires-in-loop-turn t c = (
  search (rules, the_lemmas),
  let m = module_facts c.args.scope.now in
      let ranges = ranges_in m in
      let nets = c.args.scope.now.nets.items in
      let all = c.args.all.now in
      let i = length all - 1 - c.loop-turn.turn in
      let x = c.index-all-all.result in
      let w = c.args.width in
      let within : i < length all = omega (arith, c.loop-turn-test.true) in
      let fit = all_here (λ x. AreFit m x.0 × AreFit m x.1) arm_view all i x within c.index-all-all.is c.requires.fit in
      let here = fit-here m (expression x.0) fit.0 in
      let own = own_width ranges (expression x.0) in
      let tested : Adds nets (made ranges (expression x.0) own) c.loop-turn.steps.items c.lower_at.new.steps.items c.in_ok-tested.tested.items
      = subst (λ n. Adds nets (made ranges (expression x.0) n) c.loop-turn.steps.items c.lower_at.new.steps.items c.in_ok-tested.tested.items) c.width_of-own.ensures c.in_ok-tested.ensures in
      let count = ap length c.deref.ensures.value ∙ bits-long nets ranges (expression x.0) own c.loop-turn.steps.items c.lower_at.new.steps.items c.in_ok-tested.tested.items (omega arith) tested in
      let few = steps-few nets ranges (expression x.0) own c.loop-turn.steps.items c.lower_at.new.steps.items c.in_ok-tested.tested.items (omega arith) tested in
      let shares = last-share (arm_cells ranges w) arm_view all c.loop-turn.turn x c.loop-turn-test.true c.index-all-all.is in
      let fits = all_here (λ x. own_width ranges x.1 ≤ w) arm_view all i x within c.index-all-all.is c.requires.owns in
      (fit.1, (fits, (c.requires.width, (omega (arith, count, few, shares, c.loop-turn.invariant.room, c.in_ok-any.ensures.grown, here.some, c.requires.some), omega (arith, c.requires.few, one-share (arm_cells ranges w) arm_view all i x within c.index-all-all.is))))),
)

pub conditional-select-requires-clause-same : goal.conditional-select-requires-clause-same
conditional-select-requires-clause-same t c =
    let m = module_facts c.args.scope.now in
    let ranges = ranges_in m in
    let nets = c.args.scope.now.nets.items in
    let all = c.args.all.now in
    let i = length all - 1 - c.loop-turn.turn in
    let x = c.index-all-all.result in
    let w = c.args.width in
    let within : i < length all = omega (arith, c.loop-turn-test.true) in
    let fit = all_here (λ x. AreFit m x.0 × AreFit m x.1) arm_view all i x within c.index-all-all.is c.requires.fit in
    let here = fit-here m (expression x.0) fit.0 in
    let own = own_width ranges (expression x.0) in
    let tested : Adds nets (made ranges (expression x.0) own) c.loop-turn.steps.items c.lower_at.new.steps.items c.in_ok-tested.tested.items
    = subst (λ n. Adds nets (made ranges (expression x.0) n) c.loop-turn.steps.items c.lower_at.new.steps.items c.in_ok-tested.tested.items) c.width_of-own.ensures c.in_ok-tested.ensures in
    let count = ap length c.deref.ensures.value ∙ bits-long nets ranges (expression x.0) own c.loop-turn.steps.items c.lower_at.new.steps.items c.in_ok-tested.tested.items (omega arith) tested in
    let few = steps-few nets ranges (expression x.0) own c.loop-turn.steps.items c.lower_at.new.steps.items c.in_ok-tested.tested.items (omega arith) tested in
    let shares = last-share (arm_cells ranges w) arm_view all c.loop-turn.turn x c.loop-turn-test.true c.index-all-all.is in
    let fits = all_here (λ x. own_width ranges x.1 ≤ w) arm_view all i x within c.index-all-all.is c.requires.owns in
    let chosen = steps-few nets ranges (expression x.1) w c.any_bit.new.steps.items c.lower_at-in-loop-turn.new.steps.items c.in_ok-chosen.chosen.items fits c.in_ok-chosen.ensures in
    let wide = ap length c.deref-in-loop-turn.ensures.value ∙ bits-long nets ranges (expression x.1) w c.any_bit.new.steps.items c.lower_at-in-loop-turn.new.steps.items c.in_ok-chosen.chosen.items fits c.in_ok-chosen.ensures in
    wide ∙ sym (ap length c.deref-in-loop-turn-2.ensures.value ∙ c.loop-turn.invariant.width)

pub conditional-select-requires-clause-some : goal.conditional-select-requires-clause-some
conditional-select-requires-clause-some t c =
    let m = module_facts c.args.scope.now in
    let ranges = ranges_in m in
    let nets = c.args.scope.now.nets.items in
    let all = c.args.all.now in
    let i = length all - 1 - c.loop-turn.turn in
    let x = c.index-all-all.result in
    let w = c.args.width in
    let within : i < length all = omega (arith, c.loop-turn-test.true) in
    let fit = all_here (λ x. AreFit m x.0 × AreFit m x.1) arm_view all i x within c.index-all-all.is c.requires.fit in
    let here = fit-here m (expression x.0) fit.0 in
    let own = own_width ranges (expression x.0) in
    let tested : Adds nets (made ranges (expression x.0) own) c.loop-turn.steps.items c.lower_at.new.steps.items c.in_ok-tested.tested.items
    = subst (λ n. Adds nets (made ranges (expression x.0) n) c.loop-turn.steps.items c.lower_at.new.steps.items c.in_ok-tested.tested.items) c.width_of-own.ensures c.in_ok-tested.ensures in
    let count = ap length c.deref.ensures.value ∙ bits-long nets ranges (expression x.0) own c.loop-turn.steps.items c.lower_at.new.steps.items c.in_ok-tested.tested.items (omega arith) tested in
    let few = steps-few nets ranges (expression x.0) own c.loop-turn.steps.items c.lower_at.new.steps.items c.in_ok-tested.tested.items (omega arith) tested in
    let shares = last-share (arm_cells ranges w) arm_view all c.loop-turn.turn x c.loop-turn-test.true c.index-all-all.is in
    let fits = all_here (λ x. own_width ranges x.1 ≤ w) arm_view all i x within c.index-all-all.is c.requires.owns in
    let chosen = steps-few nets ranges (expression x.1) w c.any_bit.new.steps.items c.lower_at-in-loop-turn.new.steps.items c.in_ok-chosen.chosen.items fits c.in_ok-chosen.ensures in
    let wide = ap length c.deref-in-loop-turn.ensures.value ∙ bits-long nets ranges (expression x.1) w c.any_bit.new.steps.items c.lower_at-in-loop-turn.new.steps.items c.in_ok-chosen.chosen.items fits c.in_ok-chosen.ensures in
    omega (arith, wide, c.requires.some)

pub conditional-select-requires-clause-room : goal.conditional-select-requires-clause-room
conditional-select-requires-clause-room t c =
    let m = module_facts c.args.scope.now in
    let ranges = ranges_in m in
    let nets = c.args.scope.now.nets.items in
    let all = c.args.all.now in
    let i = length all - 1 - c.loop-turn.turn in
    let x = c.index-all-all.result in
    let w = c.args.width in
    let within : i < length all = omega (arith, c.loop-turn-test.true) in
    let fit = all_here (λ x. AreFit m x.0 × AreFit m x.1) arm_view all i x within c.index-all-all.is c.requires.fit in
    let here = fit-here m (expression x.0) fit.0 in
    let own = own_width ranges (expression x.0) in
    let tested : Adds nets (made ranges (expression x.0) own) c.loop-turn.steps.items c.lower_at.new.steps.items c.in_ok-tested.tested.items
    = subst (λ n. Adds nets (made ranges (expression x.0) n) c.loop-turn.steps.items c.lower_at.new.steps.items c.in_ok-tested.tested.items) c.width_of-own.ensures c.in_ok-tested.ensures in
    let count = ap length c.deref.ensures.value ∙ bits-long nets ranges (expression x.0) own c.loop-turn.steps.items c.lower_at.new.steps.items c.in_ok-tested.tested.items (omega arith) tested in
    let few = steps-few nets ranges (expression x.0) own c.loop-turn.steps.items c.lower_at.new.steps.items c.in_ok-tested.tested.items (omega arith) tested in
    let shares = last-share (arm_cells ranges w) arm_view all c.loop-turn.turn x c.loop-turn-test.true c.index-all-all.is in
    let fits = all_here (λ x. own_width ranges x.1 ≤ w) arm_view all i x within c.index-all-all.is c.requires.owns in
    let chosen = steps-few nets ranges (expression x.1) w c.any_bit.new.steps.items c.lower_at-in-loop-turn.new.steps.items c.in_ok-chosen.chosen.items fits c.in_ok-chosen.ensures in
    let wide = ap length c.deref-in-loop-turn.ensures.value ∙ bits-long nets ranges (expression x.1) w c.any_bit.new.steps.items c.lower_at-in-loop-turn.new.steps.items c.in_ok-chosen.chosen.items fits c.in_ok-chosen.ensures in
    omega (arith, count, few, shares, chosen, wide, c.loop-turn.invariant.room, c.in_ok-any.ensures.grown, here.some, c.requires.some)

pub conditional-loop-turn-preserved : goal.conditional-loop-turn-preserved
conditional-loop-turn-preserved t c =
    let m = module_facts c.args.scope.now in
    let ranges = ranges_in m in
    let nets = c.args.scope.now.nets.items in
    let all = c.args.all.now in
    let i = length all - 1 - c.loop-turn.turn in
    let x = c.index-all-all.result in
    let w = c.args.width in
    let within : i < length all = omega (arith, c.loop-turn-test.true) in
    let fit = all_here (λ x. AreFit m x.0 × AreFit m x.1) arm_view all i x within c.index-all-all.is c.requires.fit in
    let here = fit-here m (expression x.0) fit.0 in
    let own = own_width ranges (expression x.0) in
    let tested : Adds nets (made ranges (expression x.0) own) c.loop-turn.steps.items c.lower_at.new.steps.items c.in_ok-tested.tested.items
    = subst (λ n. Adds nets (made ranges (expression x.0) n) c.loop-turn.steps.items c.lower_at.new.steps.items c.in_ok-tested.tested.items) c.width_of-own.ensures c.in_ok-tested.ensures in
    let count = ap length c.deref.ensures.value ∙ bits-long nets ranges (expression x.0) own c.loop-turn.steps.items c.lower_at.new.steps.items c.in_ok-tested.tested.items (omega arith) tested in
    let few = steps-few nets ranges (expression x.0) own c.loop-turn.steps.items c.lower_at.new.steps.items c.in_ok-tested.tested.items (omega arith) tested in
    let shares = last-share (arm_cells ranges w) arm_view all c.loop-turn.turn x c.loop-turn-test.true c.index-all-all.is in
    let fits = all_here (λ x. own_width ranges x.1 ≤ w) arm_view all i x within c.index-all-all.is c.requires.owns in
    let chosen = steps-few nets ranges (expression x.1) w c.any_bit.new.steps.items c.lower_at-in-loop-turn.new.steps.items c.in_ok-chosen.chosen.items fits c.in_ok-chosen.ensures in
    let wide = ap length c.deref-in-loop-turn.ensures.value ∙ bits-long nets ranges (expression x.1) w c.any_bit.new.steps.items c.lower_at-in-loop-turn.new.steps.items c.in_ok-chosen.chosen.items fits c.in_ok-chosen.ensures in
    record {
      made = λ p old adds.
          let others = c.loop-turn.invariant.made p old adds in
          arm-more nets ranges arm_view w p all c.loop-turn.turn x old c.select.new.steps.items c.in_ok-bits.bits.items c.loop-turn-test.true c.index-all-all.is
          (c.in_ok-bits.ensures.made nets (arms_on ranges w p (map arm_view (drop (length all - c.loop-turn.turn) all))) (made ranges (expression x.0) own) (made ranges (expression x.1) w) old c.loop-turn.steps.items c.any_bit.new.steps.items
          (subst (Adds nets (arms_on ranges w p (map arm_view (drop (length all - c.loop-turn.turn) all))) old c.loop-turn.steps.items) (sym c.deref-in-loop-turn-2.ensures.value) others)
          (c.in_ok-any.ensures.made nets (made ranges (expression x.0) own) c.loop-turn.steps.items (subst (Adds nets (made ranges (expression x.0) own) c.loop-turn.steps.items c.lower_at.new.steps.items) (sym c.deref.ensures.value) tested))
          (subst (Adds nets (made ranges (expression x.1) w) c.any_bit.new.steps.items c.lower_at-in-loop-turn.new.steps.items) (sym c.deref-in-loop-turn.ensures.value) c.in_ok-chosen.ensures));
      width = c.in_ok-bits.ensures.count ∙ wide;
      room = omega (arith, count, few, shares, chosen, wide, c.loop-turn.invariant.room, c.in_ok-any.ensures.grown, c.in_ok-bits.ensures.grown, here.some, c.requires.some, before (arm_cells ranges w) arm_view all c.loop-turn.turn);
    }

pub conditional-returns : goal.conditional-returns
conditional-returns t c = λ m old adds.
    let all = c.args.all.now in
    subst (λ k. Adds c.args.scope.now.nets.items (arms_on (ranges_in (module_facts c.args.scope.now)) c.args.width m (map arm_view (drop k all))) old c.loop-turn.steps.items c.loop-turn.bits.items)
    (none-left (length all) c.loop-turn.turn c.loop-turn-test.false) (c.loop-turn.invariant.made m old adds)

-- parts
pub lower_at-side_by_side-requires : goal.lower_at-side_by_side-requires
lower_at-side_by_side-requires t c =
    let m = module_facts c.args.scope.now in
    let xs = map expression c.deref-in-Concat.result.now in
    let n = length c.args.steps.now.items in
    let view : expression c.args.expr.now ≡ Concat (listed_parts xs) = expression-concat c.args.expr.now c.in-Concat.all c.in-Concat.is ∙ ap (λ ys. Concat (listed_parts (map expression ys))) (sym c.deref-in-Concat.ensures.value) in
    let whole = subst (λ e. IsRequired m e c.args.width n) view (record { fit = c.requires.fit; own = c.requires.own; room = c.requires.room; few = c.requires.few }) in
    let requested = requested-concat m xs c.args.width n whole in
    (search (rules, the_lemmas), (fit-parts m xs whole.fit, (omega (arith, requested.0, sum-map (own_width (ranges_in m)) xs, c.requires.width), (omega (arith, requested.0, requested.1), omega (arith, requested.2)))))

pub lower_at-extended-requires : goal.lower_at-extended-requires
lower_at-extended-requires t c =
    let m = module_facts c.args.scope.now in
    let xs = map expression c.deref-in-Concat.result.now in
    let n = length c.args.steps.now.items in
    let view : expression c.args.expr.now ≡ Concat (listed_parts xs) = expression-concat c.args.expr.now c.in-Concat.all c.in-Concat.is ∙ ap (λ ys. Concat (listed_parts (map expression ys))) (sym c.deref-in-Concat.ensures.value) in
    let whole = subst (λ e. IsRequired m e c.args.width n) view (record { fit = c.requires.fit; own = c.requires.own; room = c.requires.room; few = c.requires.few }) in
    let requested = requested-concat m xs c.args.width n whole in
    let few = parts-few c.args.scope.now.nets.items (ranges_in m) xs c.args.steps.now.items c.side_by_side.new.steps.items c.in_ok-bits-in-Concat.bits.items c.in_ok-bits-in-Concat.ensures in
    omega (arith, requested.0, requested.1, few.0, few.1, ap length c.deref-in-Concat-2.ensures.value)

pub lower_at-returns-in_ok-bits-in-Concat : goal.lower_at-returns-in_ok-bits-in-Concat
lower_at-returns-in_ok-bits-in-Concat t c =
    let ranges = ranges_in (module_facts c.args.scope.now) in
    let nets = c.args.scope.now.nets.items in
    let xs = map expression c.deref-in-Concat.result.now in
    let old = c.args.steps.now.items in
    let view : expression c.args.expr.now ≡ Concat (listed_parts xs) = expression-concat c.args.expr.now c.in-Concat.all c.in-Concat.is ∙ ap (λ ys. Concat (listed_parts (map expression ys))) (sym c.deref-in-Concat.ensures.value) in
    IfOk-weaker c.extended.result _ _
    (λ bits h. subst (λ x. Adds nets (made ranges x c.args.width) old c.extended.new.steps.items bits.items) (sym view) (concat-made nets ranges xs c.args.width old c.extended.new.steps.items bits.items h))
    (c.extended.ensures.made nets (beside ranges xs) old (subst (Adds nets (beside ranges xs) old c.side_by_side.new.steps.items) (sym c.deref-in-Concat-2.ensures.value) c.in_ok-bits-in-Concat.ensures))

pub lower_at-side_by_side-requires-in-Repeat : goal.lower_at-side_by_side-requires-in-Repeat
lower_at-side_by_side-requires-in-Repeat t c =
    let m = module_facts c.args.scope.now in
    let k = c.in-Repeat.count in
    let xs = map expression c.deref-in-Repeat.result.now in
    let n = length c.args.steps.now.items in
    let view : expression c.args.expr.now ≡ Repeat k (listed_parts xs) = expression-repeat c.args.expr.now k c.in-Repeat.all c.in-Repeat.is ∙ ap (λ ys. Repeat k (listed_parts (map expression ys))) (sym c.deref-in-Repeat.ensures.value) in
    let whole = subst (λ e. IsRequired m e c.args.width n) view (record { fit = c.requires.fit; own = c.requires.own; room = c.requires.room; few = c.requires.few }) in
    let requested = requested-repeat m k xs c.args.width n whole in
    (search (rules, the_lemmas), (fit-copied m k xs whole.fit, (omega (arith, requested.0, sum-map (own_width (ranges_in m)) xs, c.requires.width), (omega (arith, requested.0, requested.1), omega (arith, requested.4)))))

pub lower_at-copied-requires : goal.lower_at-copied-requires
lower_at-copied-requires t c =
    let m = module_facts c.args.scope.now in
    let k = c.in-Repeat.count in
    let xs = map expression c.deref-in-Repeat.result.now in
    let n = length c.args.steps.now.items in
    let view : expression c.args.expr.now ≡ Repeat k (listed_parts xs) = expression-repeat c.args.expr.now k c.in-Repeat.all c.in-Repeat.is ∙ ap (λ ys. Repeat k (listed_parts (map expression ys))) (sym c.deref-in-Repeat.ensures.value) in
    let whole = subst (λ e. IsRequired m e c.args.width n) view (record { fit = c.requires.fit; own = c.requires.own; room = c.requires.room; few = c.requires.few }) in
    let few = parts-few c.args.scope.now.nets.items (ranges_in m) xs c.args.steps.now.items c.side_by_side-in-Repeat.new.steps.items c.in_ok-bits-in-Repeat.bits.items c.in_ok-bits-in-Repeat.ensures in
    omega (arith, (requested-repeat m k xs c.args.width n whole).3, ap (λ s. k * s) (ap length c.deref-in-Repeat-2.ensures.value ∙ few.0), c.requires.width)

pub lower_at-extended-requires-in-Repeat : goal.lower_at-extended-requires-in-Repeat
lower_at-extended-requires-in-Repeat t c =
    let m = module_facts c.args.scope.now in
    let k = c.in-Repeat.count in
    let xs = map expression c.deref-in-Repeat.result.now in
    let n = length c.args.steps.now.items in
    let view : expression c.args.expr.now ≡ Repeat k (listed_parts xs) = expression-repeat c.args.expr.now k c.in-Repeat.all c.in-Repeat.is ∙ ap (λ ys. Repeat k (listed_parts (map expression ys))) (sym c.deref-in-Repeat.ensures.value) in
    let whole = subst (λ e. IsRequired m e c.args.width n) view (record { fit = c.requires.fit; own = c.requires.own; room = c.requires.room; few = c.requires.few }) in
    let requested = requested-repeat m k xs c.args.width n whole in
    let few = parts-few c.args.scope.now.nets.items (ranges_in m) xs c.args.steps.now.items c.side_by_side-in-Repeat.new.steps.items c.in_ok-bits-in-Repeat.bits.items c.in_ok-bits-in-Repeat.ensures in
    let count = ap length (c.deref-in-Repeat-3.ensures.value ∙ c.in_ok-copies-in-Repeat.ensures ∙ ap (copies k) c.deref-in-Repeat-2.ensures.value) ∙ length-copies k c.in_ok-bits-in-Repeat.bits.items ∙ ap (λ s. k * s) few.0 in
    omega (arith, requested.1, requested.3, few.1, count, copies-cover k (sum_by (own_width (ranges_in m)) xs) requested.2)

pub lower_at-returns-in_ok-copies-in-Repeat : goal.lower_at-returns-in_ok-copies-in-Repeat
lower_at-returns-in_ok-copies-in-Repeat t c =
    let m = module_facts c.args.scope.now in
    let ranges = ranges_in m in
    let nets = c.args.scope.now.nets.items in
    let k = c.in-Repeat.count in
    let xs = map expression c.deref-in-Repeat.result.now in
    let old = c.args.steps.now.items in
    let view : expression c.args.expr.now ≡ Repeat k (listed_parts xs) = expression-repeat c.args.expr.now k c.in-Repeat.all c.in-Repeat.is ∙ ap (λ ys. Repeat k (listed_parts (map expression ys))) (sym c.deref-in-Repeat.ensures.value) in
    let whole = subst (λ e. IsRequired m e c.args.width (length old)) view (record { fit = c.requires.fit; own = c.requires.own; room = c.requires.room; few = c.requires.few }) in
    let some = (requested-repeat m k xs c.args.width (length old) whole).2 in
    let places = c.deref-in-Repeat-3.ensures.value ∙ c.in_ok-copies-in-Repeat.ensures ∙ ap (copies k) c.deref-in-Repeat-2.ensures.value in
    IfOk-weaker c.extended-in-Repeat.result _ _
    (λ bits h. subst (λ x. Adds nets (made ranges x c.args.width) old c.extended-in-Repeat.new.steps.items bits.items) (sym view) (repeat-made nets ranges k xs c.args.width old c.extended-in-Repeat.new.steps.items bits.items h))
    (c.extended-in-Repeat.ensures.made nets (record { bits = copies k (beside ranges xs).bits; cells = (beside ranges xs).cells }) old
    (subst (Adds nets (record { bits = copies k (beside ranges xs).bits; cells = (beside ranges xs).cells }) old c.side_by_side-in-Repeat.new.steps.items) (sym places)
    (adds-copied nets k some (beside ranges xs) old c.side_by_side-in-Repeat.new.steps.items c.in_ok-bits-in-Repeat.bits.items c.in_ok-bits-in-Repeat.ensures)))

pub side_by_side-loop-part-init : goal.side_by_side-loop-part-init
side_by_side-loop-part-init t c = record {
  made = subst (Adds c.args.scope.now.nets.items (beside (ranges_in (module_facts c.args.scope.now)) []) c.args.steps.now.items c.args.steps.now.items) (sym c.in_ok-bits.ensures.items) (adds-nothing c.args.scope.now.nets.items c.args.steps.now.items);
  room = c.requires.room;
}

pub side_by_side-width_of-own-requires : goal.side_by_side-width_of-own-requires
side_by_side-width_of-own-requires t c = record {
  fit = all_here (AreFit (module_facts c.args.scope.now)) expression c.args.all.now c.loop-part.part-index c.part-item.result c.loop-part-test.true c.part-item.is c.requires.fit;
}

pub side_by_side-lower_at-requires : goal.side_by_side-lower_at-requires
side_by_side-lower_at-requires t c =
    let m = module_facts c.args.scope.now in
    let i = c.loop-part.part-index in
    let x = c.part-item.result in
    let fit = all_here (AreFit m) expression c.args.all.now i x c.loop-part-test.true c.part-item.is c.requires.fit in (
      search (rules, the_lemmas),
      (
        fit,
        (
          omega (arith, c.width_of-own.ensures),
          (
            omega (arith, c.width_of-own.ensures, (fit-here m (expression x) fit).bounded),
            (
              omega (
                arith,
                c.loop-part.invariant.room,
                c.width_of-own.ensures,
                ap (λ n. cell_count (ranges_in m) (expression x) n) c.width_of-own.ensures,
                sum-here (own_width (ranges_in m)) expression c.args.all.now i x c.loop-part-test.true c.part-item.is,
                sum-here (own_cells (ranges_in m)) expression c.args.all.now i x c.loop-part-test.true c.part-item.is,
              ),
              omega (
                arith,
                c.requires.few,
                ap (λ n. cell_count (ranges_in m) (expression x) n) c.width_of-own.ensures,
                one-share (own_cells (ranges_in m)) expression c.args.all.now i x c.loop-part-test.true c.part-item.is,
              ),
            ),
          ),
        ),
      ),
    )

pub side_by_side-loop-part-preserved : goal.side_by_side-loop-part-preserved
side_by_side-loop-part-preserved t c =
    let m = module_facts c.args.scope.now in
    let ranges = ranges_in m in
    let nets = c.args.scope.now.nets.items in
    let i = c.loop-part.part-index in
    let x = c.part-item.result in
    let old = c.args.steps.now.items in
    let here : Adds nets (made ranges (expression x) (own_width ranges (expression x))) c.loop-part.steps.items c.lower_at.new.steps.items c.in_ok-more.more.items
    = subst (λ w. Adds nets (made ranges (expression x) w) c.loop-part.steps.items c.lower_at.new.steps.items c.in_ok-more.more.items) c.width_of-own.ensures c.in_ok-more.ensures in
    let listed : map expression (take (i + 1) c.args.all.now) ≡ map expression (take i c.args.all.now) ++ expression x ∷ [] = map_more expression c.args.all.now i x c.loop-part-test.true ∙ ap (λ e. map expression (take i c.args.all.now) ++ expression e ∷ []) (sym c.part-item.is) in
    let out : c.extend_from_slice.new.self.items ≡ c.loop-part.bits.items ++ c.in_ok-more.more.items = c.in_ok-extend_from_slice.ensures.items ∙ ap (λ l. c.loop-part.bits.items ++ l) c.deref.ensures.value in
    record {
      made = subst (λ es. Adds nets (beside ranges es) old c.lower_at.new.steps.items c.extend_from_slice.new.self.items) (sym listed)
          (subst (Adds nets (beside ranges (map expression (take i c.args.all.now) ++ expression x ∷ [])) old c.lower_at.new.steps.items) (sym out)
          (part-more nets ranges (map expression (take i c.args.all.now)) (expression x) old c.loop-part.steps.items c.lower_at.new.steps.items c.loop-part.bits.items c.in_ok-more.more.items c.loop-part.invariant.made here));
      room = omega (
        arith,
        c.loop-part.invariant.room,
        steps-few nets ranges (expression x) (own_width ranges (expression x)) c.loop-part.steps.items c.lower_at.new.steps.items c.in_ok-more.more.items (omega arith) here,
        sum-here (own_width ranges) expression c.args.all.now i x c.loop-part-test.true c.part-item.is,
        sum-here (own_cells ranges) expression c.args.all.now i x c.loop-part-test.true c.part-item.is,
      );
    }

-- reductions
pub lower_at-width_of-own-requires : goal.lower_at-width_of-own-requires
lower_at-width_of-own-requires t c =
    let m = module_facts c.args.scope.now in
    record {
      fit = subst (λ e. AreFit m (expression e)) (sym c.deref-in-Fold.ensures)
          (fit-folded m c.in-Fold.op (expression c.in-Fold.operand.value) (subst (AreFit m) (expression-fold c.args.expr.now c.in-Fold.op c.in-Fold.operand c.in-Fold.is) c.requires.fit));
    }

pub lower_at-lower_at-requires-in-Fold : goal.lower_at-lower_at-requires-in-Fold
lower_at-lower_at-requires-in-Fold t c =
    let m = module_facts c.args.scope.now in
    let ranges = ranges_in m in
    let n = length c.args.steps.now.items in
    let e = expression c.deref-in-Fold-2.result.now in
    let k = c.width_of-own.result in
    let same = c.deref-in-Fold.ensures ∙ sym c.deref-in-Fold-2.ensures in
    let own : k ≡ own_width ranges e = c.width_of-own.ensures ∙ ap (λ y. own_width ranges (expression y)) same in
    let view : expression c.args.expr.now ≡ Fold c.in-Fold.op e = expression-fold c.args.expr.now c.in-Fold.op c.in-Fold.operand c.in-Fold.is ∙ ap (λ y. Fold c.in-Fold.op (expression y)) (sym c.deref-in-Fold-2.ensures) in
    let whole = subst (λ y. IsRequired m y c.args.width n) view (record { fit = c.requires.fit; own = c.requires.own; room = c.requires.room; few = c.requires.few }) in
    let requested = requested-folded m c.in-Fold.op e c.args.width n k whole own in
    (search (rules, the_lemmas), (fit-folded m c.in-Fold.op e whole.fit, (omega (arith, own), (requested.1, (requested.2, requested.3)))))

pub lower_at-fold-requires-clause-some : goal.lower_at-fold-requires-clause-some
lower_at-fold-requires-clause-some t c =
    let m = module_facts c.args.scope.now in
    let ranges = ranges_in m in
    let n = length c.args.steps.now.items in
    let nets = c.args.scope.now.nets.items in
    let e = expression c.deref-in-Fold-2.result.now in
    let k = c.width_of-own.result in
    let own : k ≡ own_width ranges e = c.width_of-own.ensures ∙ ap (λ y. own_width ranges (expression y)) (c.deref-in-Fold.ensures ∙ sym c.deref-in-Fold-2.ensures) in
    let view : expression c.args.expr.now ≡ Fold c.in-Fold.op e = expression-fold c.args.expr.now c.in-Fold.op c.in-Fold.operand c.in-Fold.is ∙ ap (λ y. Fold c.in-Fold.op (expression y)) (sym c.deref-in-Fold-2.ensures) in
    let whole = subst (λ y. IsRequired m y c.args.width n) view (record { fit = c.requires.fit; own = c.requires.own; room = c.requires.room; few = c.requires.few }) in
    let requested = requested-folded m c.in-Fold.op e c.args.width n k whole own in
    omega (
      arith,
      requested.0,
      bits-long nets ranges e k c.args.steps.now.items c.lower_at-in-Fold.new.steps.items c.in_ok-bits-in-Fold.bits.items (omega (arith, own)) c.in_ok-bits-in-Fold.ensures,
      ap length c.deref-in-Fold-3.ensures.value,
    )

pub lower_at-fold-requires-clause-few : goal.lower_at-fold-requires-clause-few
lower_at-fold-requires-clause-few t c =
    let m = module_facts c.args.scope.now in
    let ranges = ranges_in m in
    let n = length c.args.steps.now.items in
    let nets = c.args.scope.now.nets.items in
    let e = expression c.deref-in-Fold-2.result.now in
    let k = c.width_of-own.result in
    let own : k ≡ own_width ranges e = c.width_of-own.ensures ∙ ap (λ y. own_width ranges (expression y)) (c.deref-in-Fold.ensures ∙ sym c.deref-in-Fold-2.ensures) in
    let view : expression c.args.expr.now ≡ Fold c.in-Fold.op e = expression-fold c.args.expr.now c.in-Fold.op c.in-Fold.operand c.in-Fold.is ∙ ap (λ y. Fold c.in-Fold.op (expression y)) (sym c.deref-in-Fold-2.ensures) in
    let whole = subst (λ y. IsRequired m y c.args.width n) view (record { fit = c.requires.fit; own = c.requires.own; room = c.requires.room; few = c.requires.few }) in
    let requested = requested-folded m c.in-Fold.op e c.args.width n k whole own in
    omega (
      arith,
      requested.1,
      bits-long nets ranges e k c.args.steps.now.items c.lower_at-in-Fold.new.steps.items c.in_ok-bits-in-Fold.bits.items (omega (arith, own)) c.in_ok-bits-in-Fold.ensures,
      ap length c.deref-in-Fold-3.ensures.value,
    )

pub lower_at-fold-requires-clause-room : goal.lower_at-fold-requires-clause-room
lower_at-fold-requires-clause-room t c =
    let m = module_facts c.args.scope.now in
    let ranges = ranges_in m in
    let n = length c.args.steps.now.items in
    let nets = c.args.scope.now.nets.items in
    let e = expression c.deref-in-Fold-2.result.now in
    let k = c.width_of-own.result in
    let own : k ≡ own_width ranges e = c.width_of-own.ensures ∙ ap (λ y. own_width ranges (expression y)) (c.deref-in-Fold.ensures ∙ sym c.deref-in-Fold-2.ensures) in
    let view : expression c.args.expr.now ≡ Fold c.in-Fold.op e = expression-fold c.args.expr.now c.in-Fold.op c.in-Fold.operand c.in-Fold.is ∙ ap (λ y. Fold c.in-Fold.op (expression y)) (sym c.deref-in-Fold-2.ensures) in
    let whole = subst (λ y. IsRequired m y c.args.width n) view (record { fit = c.requires.fit; own = c.requires.own; room = c.requires.room; few = c.requires.few }) in
    let requested = requested-folded m c.in-Fold.op e c.args.width n k whole own in
    let long = ap length c.deref-in-Fold-3.ensures.value ∙ bits-long nets ranges e k c.args.steps.now.items c.lower_at-in-Fold.new.steps.items c.in_ok-bits-in-Fold.bits.items (omega (arith, own)) c.in_ok-bits-in-Fold.ensures in
    omega (
      arith,
      requested.1,
      requested.2,
      requested.4,
      steps-few nets ranges e k c.args.steps.now.items c.lower_at-in-Fold.new.steps.items c.in_ok-bits-in-Fold.bits.items (omega (arith, own)) c.in_ok-bits-in-Fold.ensures,
      ap (fold_cells c.in-Fold.op) long,
    )

pub lower_at-extended-requires-in-Fold : goal.lower_at-extended-requires-in-Fold
lower_at-extended-requires-in-Fold t c =
    let m = module_facts c.args.scope.now in
    let ranges = ranges_in m in
    let n = length c.args.steps.now.items in
    let nets = c.args.scope.now.nets.items in
    let e = expression c.deref-in-Fold-2.result.now in
    let k = c.width_of-own.result in
    let own : k ≡ own_width ranges e = c.width_of-own.ensures ∙ ap (λ y. own_width ranges (expression y)) (c.deref-in-Fold.ensures ∙ sym c.deref-in-Fold-2.ensures) in
    let view : expression c.args.expr.now ≡ Fold c.in-Fold.op e = expression-fold c.args.expr.now c.in-Fold.op c.in-Fold.operand c.in-Fold.is ∙ ap (λ y. Fold c.in-Fold.op (expression y)) (sym c.deref-in-Fold-2.ensures) in
    let whole = subst (λ y. IsRequired m y c.args.width n) view (record { fit = c.requires.fit; own = c.requires.own; room = c.requires.room; few = c.requires.few }) in
    let requested = requested-folded m c.in-Fold.op e c.args.width n k whole own in
    let long = ap length c.deref-in-Fold-3.ensures.value ∙ bits-long nets ranges e k c.args.steps.now.items c.lower_at-in-Fold.new.steps.items c.in_ok-bits-in-Fold.bits.items (omega (arith, own)) c.in_ok-bits-in-Fold.ensures in
    omega (
      arith,
      requested.1,
      requested.2,
      requested.4,
      c.requires.width,
      steps-few nets ranges e k c.args.steps.now.items c.lower_at-in-Fold.new.steps.items c.in_ok-bits-in-Fold.bits.items (omega (arith, own)) c.in_ok-bits-in-Fold.ensures,
      ap (fold_cells c.in-Fold.op) long,
      c.in_ok-result-in-Fold.ensures.grown,
    )

pub lower_at-returns-in_ok-result-in-Fold : goal.lower_at-returns-in_ok-result-in-Fold
lower_at-returns-in_ok-result-in-Fold t c =
    let m = module_facts c.args.scope.now in
    let ranges = ranges_in m in
    let nets = c.args.scope.now.nets.items in
    let old = c.args.steps.now.items in
    let op = c.in-Fold.op in
    let e = expression c.deref-in-Fold-2.result.now in
    let own : c.width_of-own.result ≡ own_width ranges e = c.width_of-own.ensures ∙ ap (λ y. own_width ranges (expression y)) (c.deref-in-Fold.ensures ∙ sym c.deref-in-Fold-2.ensures) in
    let view : expression c.args.expr.now ≡ Fold op e = expression-fold c.args.expr.now op c.in-Fold.operand c.in-Fold.is ∙ ap (λ y. Fold op (expression y)) (sym c.deref-in-Fold-2.ensures) in
    let inner : Adds nets (made ranges e (own_width ranges e)) old c.lower_at-in-Fold.new.steps.items c.deref-in-Fold-3.result.now
    = subst (Adds nets (made ranges e (own_width ranges e)) old c.lower_at-in-Fold.new.steps.items) (sym c.deref-in-Fold-3.ensures.value)
    (subst (λ k. Adds nets (made ranges e k) old c.lower_at-in-Fold.new.steps.items c.in_ok-bits-in-Fold.bits.items) own c.in_ok-bits-in-Fold.ensures) in
    let joined = c.in_ok-result-in-Fold.ensures.made nets (made ranges e (own_width ranges e)) old inner in
    subst (λ y. IfOk c.extended-in-Fold.result (λ bits. Adds nets (made ranges y c.args.width) old c.extended-in-Fold.new.steps.items bits.items)) (sym view)
    (c.extended-in-Fold.ensures.made nets (fold_joined op (made ranges e (own_width ranges e))) old
    (subst (Adds nets (fold_joined op (made ranges e (own_width ranges e))) old c.fold.new.steps.items) (sym c.deref-in-Fold-4.ensures.value) joined))

-- operators on words
pub lower_at-width_of-own-requires-in-Words : goal.lower_at-width_of-own-requires-in-Words
lower_at-width_of-own-requires-in-Words t c =
    let m = module_facts c.args.scope.now in
    record {
      fit = subst (λ e. AreFit m (expression e)) (sym c.deref-in-Words.ensures)
          (fit-left m (expression c.in-Words.first.value) (map operand_view c.in-Words.rest.items)
          (subst (AreFit m) (expression-words c.args.expr.now c.in-Words.first c.in-Words.rest c.in-Words.is) c.requires.fit));
    }

pub lower_at-taken_at-taken-requires-clause-fit : goal.lower_at-taken_at-taken-requires-clause-fit
lower_at-taken_at-taken-requires-clause-fit t c =
    let m = module_facts c.args.scope.now in
    subst (λ xs. All (λ x. AreFit m x.1) (map operand_view xs)) (sym c.deref-in-Words-2.ensures.value)
    (fit-words m (expression c.in-Words.first.value) (map operand_view c.in-Words.rest.items) (subst (AreFit m) (expression-words c.args.expr.now c.in-Words.first c.in-Words.rest c.in-Words.is) c.requires.fit))

pub lower_at-lower_at-requires-in-Words : goal.lower_at-lower_at-requires-in-Words
lower_at-lower_at-requires-in-Words t c =
    let m = module_facts c.args.scope.now in
    let ranges = ranges_in m in
    let w = c.args.width in
    let n = length c.args.steps.now.items in
    let e = expression c.in-Words.first.value in
    let xs = map operand_view c.in-Words.rest.items in
    let k = c.taken_at-taken.result in
    let whole = subst (λ y. IsRequired m y w n) (expression-words c.args.expr.now c.in-Words.first c.in-Words.rest c.in-Words.is) (record { fit = c.requires.fit; own = c.requires.own; room = c.requires.room; few = c.requires.few }) in
    let own : c.width_of-own-in-Words.result ≡ own_width ranges e = c.width_of-own-in-Words.ensures ∙ ap (λ y. own_width ranges (expression y)) c.deref-in-Words.ensures in
    let at : k ≡ taken ranges (own_width ranges e) xs w = c.taken_at-taken.ensures ∙ ap₂ (λ l ys. taken ranges l (map operand_view ys) w) own c.deref-in-Words-2.ensures.value in
    let requested = requested-left m e xs w n whole c.requires.width k at in (
      search (rules, the_lemmas),
      subst (λ y. AreFit m (expression y) × ((own_width ranges (expression y) ≤ k) × ((k ≤ 65536) × ((n + most_steps k (cell_count ranges (expression y) k) ≤ 2 ^ 31) × (cell_count ranges (expression y) k ≤ 2000000)))))
          (sym c.deref-in-Words-3.ensures) (fit-left m e xs whole.fit, (requested.0, (requested.1, (requested.2, requested.3)))),
    )

pub lower_at-words-requires : goal.lower_at-words-requires
lower_at-words-requires t c =
    let m = module_facts c.args.scope.now in
    let ranges = ranges_in m in
    let w = c.args.width in
    let nets = c.args.scope.now.nets.items in
    let old = c.args.steps.now.items in
    let n = length old in
    let e = expression c.in-Words.first.value in
    let xs = map operand_view c.in-Words.rest.items in
    let l = c.width_of-own-in-Words.result in
    let k = c.taken_at-taken.result in
    let whole = subst (λ y. IsRequired m y w n) (expression-words c.args.expr.now c.in-Words.first c.in-Words.rest c.in-Words.is) (record { fit = c.requires.fit; own = c.requires.own; room = c.requires.room; few = c.requires.few }) in
    let own : l ≡ own_width ranges e = c.width_of-own-in-Words.ensures ∙ ap (λ y. own_width ranges (expression y)) c.deref-in-Words.ensures in
    let at : k ≡ taken ranges l xs w = c.taken_at-taken.ensures ∙ ap (λ ys. taken ranges l (map operand_view ys) w) c.deref-in-Words-2.ensures.value in
    let fits = (requested-left m e xs w n whole c.requires.width k (at ∙ ap (λ j. taken ranges j xs w) own)).0 in
    let adds : Adds nets (made ranges e k) old c.lower_at-in-Words.new.steps.items c.in_ok-bits-in-Words.bits.items
    = subst (λ y. Adds nets (made ranges (expression y) k) old c.lower_at-in-Words.new.steps.items c.in_ok-bits-in-Words.bits.items) c.deref-in-Words-3.ensures c.in_ok-bits-in-Words.ensures in (
      search (rules, the_lemmas),
      subst (λ ys. AreReady m (map operand_view ys) w l (length c.lower_at-in-Words.new.steps.items) (length c.in_ok-bits-in-Words.bits.items)) (sym c.deref-in-Words-4.ensures.value)
          (requested-ready m e xs w n whole c.requires.width l k (length c.lower_at-in-Words.new.steps.items) (length c.in_ok-bits-in-Words.bits.items) own at
          (steps-few nets ranges e k old c.lower_at-in-Words.new.steps.items c.in_ok-bits-in-Words.bits.items fits adds)
          (bits-long nets ranges e k old c.lower_at-in-Words.new.steps.items c.in_ok-bits-in-Words.bits.items fits adds)),
    )

pub lower_at-returns-in_ok-bits-in-Words : goal.lower_at-returns-in_ok-bits-in-Words
lower_at-returns-in_ok-bits-in-Words t c =
    let m = module_facts c.args.scope.now in
    let ranges = ranges_in m in
    let w = c.args.width in
    let nets = c.args.scope.now.nets.items in
    let old = c.args.steps.now.items in
    let e = expression c.in-Words.first.value in
    let xs = map operand_view c.in-Words.rest.items in
    let l = c.width_of-own-in-Words.result in
    let k = c.taken_at-taken.result in
    let own : l ≡ own_width ranges e = c.width_of-own-in-Words.ensures ∙ ap (λ y. own_width ranges (expression y)) c.deref-in-Words.ensures in
    let at : k ≡ taken ranges (own_width ranges e) xs w = c.taken_at-taken.ensures ∙ ap₂ (λ j ys. taken ranges j (map operand_view ys) w) own c.deref-in-Words-2.ensures.value in
    let adds : Adds nets (made ranges e k) old c.lower_at-in-Words.new.steps.items c.in_ok-bits-in-Words.bits.items
    = subst (λ y. Adds nets (made ranges (expression y) k) old c.lower_at-in-Words.new.steps.items c.in_ok-bits-in-Words.bits.items) c.deref-in-Words-3.ensures c.in_ok-bits-in-Words.ensures in
    subst (λ p. IfOk c.words.result (λ bits. Adds nets p old c.words.new.steps.items bits.items))
    (ap (λ ys. words_on ranges (made ranges e k) l (map operand_view ys) w) c.deref-in-Words-4.ensures.value
    ∙ ap₂ (λ i j. words_on ranges (made ranges e i) j xs w) at own
    ∙ sym (ap (λ y. made ranges y w) (expression-words c.args.expr.now c.in-Words.first c.in-Words.rest c.in-Words.is) ∙ words-made ranges e xs w))
    (c.words.ensures (made ranges e k) old adds)

pub words-loop-op-init : goal.words-loop-op-init
words-loop-op-init t c = record {
  next = refl;
  made = λ m old adds. record { so_far = m; adds = adds; all = refl };
  ready = c.requires;
}

pub words-widths_at-at-requires-clause-operand : goal.words-widths_at-at-requires-clause-operand
words-widths_at-at-requires-clause-operand t c =
    let m = module_facts c.args.scope.now in
    let ranges = ranges_in m in
    let nets = c.args.scope.now.nets.items in
    let i = c.loop-op.op-index in
    let x = c.loop-op-item.result in
    let rest = c.args.rest.now in
    let w = c.args.width in
    let l = c.loop-op.own in
    let now = c.loop-op.steps.items in
    let b = length c.loop-op.bits.items in
    let xs = map operand_view (drop (i + 1) rest) in
    let ready : AreReady m (operand_view x ∷ xs) w l (length now) b
    = subst (λ ys. AreReady m ys w l (length now) b) (rest-here (λ ys. ys) operand_view rest i x c.loop-op-test.true c.loop-op-item.is) c.loop-op.invariant.ready in
    All-head (λ x. AreFit m x.1) (operand_view x) xs ready.fit

pub words-lower_at-requires : goal.words-lower_at-requires
words-lower_at-requires t c = (
  -- an element of the list nests no deeper than the whole list
  omega (
    arith,
    c.decreases,
    at_most (λ x. weighed-Expr-Words-1-at-2.weight Expr the_size x) c.args.rest.now c.loop-op.op-index c.loop-op-item.result c.loop-op-test.true,
    ap (λ x. weighed-Expr-Words-1-at-2.weight Expr the_size x) c.loop-op-item.is,
  ),
  let m = module_facts c.args.scope.now in
      let ranges = ranges_in m in
      let nets = c.args.scope.now.nets.items in
      let i = c.loop-op.op-index in
      let x = c.loop-op-item.result in
      let rest = c.args.rest.now in
      let w = c.args.width in
      let l = c.loop-op.own in
      let now = c.loop-op.steps.items in
      let b = length c.loop-op.bits.items in
      let xs = map operand_view (drop (i + 1) rest) in
      let ready : AreReady m (operand_view x ∷ xs) w l (length now) b
      = subst (λ ys. AreReady m ys w l (length now) b) (rest-here (λ ys. ys) operand_view rest i x c.loop-op-test.true c.loop-op-item.is) c.loop-op.invariant.ready in
      let second = c.widths_at-at.result.second in
      let context = c.widths_at-at.result.context in
      let is_context : context ≡ taken ranges c.widths_at-at.result.own xs w = c.widths_at-at.ensures.context ∙ ap (λ k. taken ranges c.widths_at-at.result.own (map operand_view (drop (k + 1) rest)) w) c.loop-op.invariant.next in
      let step = ready-step m (operand_view x) xs w l (length now) b (own_width (ranges_in m) (expression x.1)) c.widths_at-at.result.own context second ready
      refl c.widths_at-at.ensures.own is_context c.widths_at-at.ensures.second in
      (step.fit, (step.fits, (step.right_most, (step.room, omega (arith, step.few))))),
)

pub words-word-requires-clause-widths : goal.words-word-requires-clause-widths
words-word-requires-clause-widths t c =
    let m = module_facts c.args.scope.now in
    let ranges = ranges_in m in
    let nets = c.args.scope.now.nets.items in
    let i = c.loop-op.op-index in
    let x = c.loop-op-item.result in
    let rest = c.args.rest.now in
    let w = c.args.width in
    let l = c.loop-op.own in
    let now = c.loop-op.steps.items in
    let b = length c.loop-op.bits.items in
    let xs = map operand_view (drop (i + 1) rest) in
    let ready : AreReady m (operand_view x ∷ xs) w l (length now) b
    = subst (λ ys. AreReady m ys w l (length now) b) (rest-here (λ ys. ys) operand_view rest i x c.loop-op-test.true c.loop-op-item.is) c.loop-op.invariant.ready in
    let second = c.widths_at-at.result.second in
    let context = c.widths_at-at.result.context in
    let is_context : context ≡ taken ranges c.widths_at-at.result.own xs w = c.widths_at-at.ensures.context ∙ ap (λ k. taken ranges c.widths_at-at.result.own (map operand_view (drop (k + 1) rest)) w) c.loop-op.invariant.next in
    let step = ready-step m (operand_view x) xs w l (length now) b (own_width (ranges_in m) (expression x.1)) c.widths_at-at.result.own context second ready
    refl c.widths_at-at.ensures.own is_context c.widths_at-at.ensures.second in
    let mid = c.lower_at.new.steps.items in
    let more = c.in_ok-more.more.items in
    let few = steps-few nets ranges (expression x.1) second now mid more step.fits c.in_ok-more.ensures in
    let is_left : length c.deref.result.now ≡ b = ap length c.deref.ensures.value in
    let is_right : length c.deref-in-loop-op.result.now ≡ second = ap length c.deref-in-loop-op.ensures.value ∙ bits-long nets ranges (expression x.1) second now mid more step.fits c.in_ok-more.ensures in
    are-widths x.0 b second (length c.deref.result.now) (length c.deref-in-loop-op.result.now) step.widths step.left_some step.right_some is_left is_right

pub words-word-requires-clause-few_left : goal.words-word-requires-clause-few_left
words-word-requires-clause-few_left t c =
    let m = module_facts c.args.scope.now in
    let ranges = ranges_in m in
    let nets = c.args.scope.now.nets.items in
    let i = c.loop-op.op-index in
    let x = c.loop-op-item.result in
    let rest = c.args.rest.now in
    let w = c.args.width in
    let l = c.loop-op.own in
    let now = c.loop-op.steps.items in
    let b = length c.loop-op.bits.items in
    let xs = map operand_view (drop (i + 1) rest) in
    let ready : AreReady m (operand_view x ∷ xs) w l (length now) b
    = subst (λ ys. AreReady m ys w l (length now) b) (rest-here (λ ys. ys) operand_view rest i x c.loop-op-test.true c.loop-op-item.is) c.loop-op.invariant.ready in
    let second = c.widths_at-at.result.second in
    let context = c.widths_at-at.result.context in
    let is_context : context ≡ taken ranges c.widths_at-at.result.own xs w = c.widths_at-at.ensures.context ∙ ap (λ k. taken ranges c.widths_at-at.result.own (map operand_view (drop (k + 1) rest)) w) c.loop-op.invariant.next in
    let step = ready-step m (operand_view x) xs w l (length now) b (own_width (ranges_in m) (expression x.1)) c.widths_at-at.result.own context second ready
    refl c.widths_at-at.ensures.own is_context c.widths_at-at.ensures.second in
    let mid = c.lower_at.new.steps.items in
    let more = c.in_ok-more.more.items in
    let few = steps-few nets ranges (expression x.1) second now mid more step.fits c.in_ok-more.ensures in
    let is_left : length c.deref.result.now ≡ b = ap length c.deref.ensures.value in
    let is_right : length c.deref-in-loop-op.result.now ≡ second = ap length c.deref-in-loop-op.ensures.value ∙ bits-long nets ranges (expression x.1) second now mid more step.fits c.in_ok-more.ensures in
    omega (arith, is_left, step.left_most)

pub words-word-requires-clause-few_right : goal.words-word-requires-clause-few_right
words-word-requires-clause-few_right t c =
    let m = module_facts c.args.scope.now in
    let ranges = ranges_in m in
    let nets = c.args.scope.now.nets.items in
    let i = c.loop-op.op-index in
    let x = c.loop-op-item.result in
    let rest = c.args.rest.now in
    let w = c.args.width in
    let l = c.loop-op.own in
    let now = c.loop-op.steps.items in
    let b = length c.loop-op.bits.items in
    let xs = map operand_view (drop (i + 1) rest) in
    let ready : AreReady m (operand_view x ∷ xs) w l (length now) b
    = subst (λ ys. AreReady m ys w l (length now) b) (rest-here (λ ys. ys) operand_view rest i x c.loop-op-test.true c.loop-op-item.is) c.loop-op.invariant.ready in
    let second = c.widths_at-at.result.second in
    let context = c.widths_at-at.result.context in
    let is_context : context ≡ taken ranges c.widths_at-at.result.own xs w = c.widths_at-at.ensures.context ∙ ap (λ k. taken ranges c.widths_at-at.result.own (map operand_view (drop (k + 1) rest)) w) c.loop-op.invariant.next in
    let step = ready-step m (operand_view x) xs w l (length now) b (own_width (ranges_in m) (expression x.1)) c.widths_at-at.result.own context second ready
    refl c.widths_at-at.ensures.own is_context c.widths_at-at.ensures.second in
    let mid = c.lower_at.new.steps.items in
    let more = c.in_ok-more.more.items in
    let few = steps-few nets ranges (expression x.1) second now mid more step.fits c.in_ok-more.ensures in
    let is_left : length c.deref.result.now ≡ b = ap length c.deref.ensures.value in
    let is_right : length c.deref-in-loop-op.result.now ≡ second = ap length c.deref-in-loop-op.ensures.value ∙ bits-long nets ranges (expression x.1) second now mid more step.fits c.in_ok-more.ensures in
    omega (arith, is_right, step.right_most)

pub words-word-requires-clause-few_cells : goal.words-word-requires-clause-few_cells
words-word-requires-clause-few_cells t c =
    let m = module_facts c.args.scope.now in
    let ranges = ranges_in m in
    let nets = c.args.scope.now.nets.items in
    let i = c.loop-op.op-index in
    let x = c.loop-op-item.result in
    let rest = c.args.rest.now in
    let w = c.args.width in
    let l = c.loop-op.own in
    let now = c.loop-op.steps.items in
    let b = length c.loop-op.bits.items in
    let xs = map operand_view (drop (i + 1) rest) in
    let ready : AreReady m (operand_view x ∷ xs) w l (length now) b
    = subst (λ ys. AreReady m ys w l (length now) b) (rest-here (λ ys. ys) operand_view rest i x c.loop-op-test.true c.loop-op-item.is) c.loop-op.invariant.ready in
    let second = c.widths_at-at.result.second in
    let context = c.widths_at-at.result.context in
    let is_context : context ≡ taken ranges c.widths_at-at.result.own xs w = c.widths_at-at.ensures.context ∙ ap (λ k. taken ranges c.widths_at-at.result.own (map operand_view (drop (k + 1) rest)) w) c.loop-op.invariant.next in
    let step = ready-step m (operand_view x) xs w l (length now) b (own_width (ranges_in m) (expression x.1)) c.widths_at-at.result.own context second ready
    refl c.widths_at-at.ensures.own is_context c.widths_at-at.ensures.second in
    let mid = c.lower_at.new.steps.items in
    let more = c.in_ok-more.more.items in
    let few = steps-few nets ranges (expression x.1) second now mid more step.fits c.in_ok-more.ensures in
    let is_left : length c.deref.result.now ≡ b = ap length c.deref.ensures.value in
    let is_right : length c.deref-in-loop-op.result.now ≡ second = ap length c.deref-in-loop-op.ensures.value ∙ bits-long nets ranges (expression x.1) second now mid more step.fits c.in_ok-more.ensures in
    omega (arith, ap₂ (word_cells x.0) is_left is_right, step.few)

pub words-word-requires-clause-room : goal.words-word-requires-clause-room
words-word-requires-clause-room t c =
    let m = module_facts c.args.scope.now in
    let ranges = ranges_in m in
    let nets = c.args.scope.now.nets.items in
    let i = c.loop-op.op-index in
    let x = c.loop-op-item.result in
    let rest = c.args.rest.now in
    let w = c.args.width in
    let l = c.loop-op.own in
    let now = c.loop-op.steps.items in
    let b = length c.loop-op.bits.items in
    let xs = map operand_view (drop (i + 1) rest) in
    let ready : AreReady m (operand_view x ∷ xs) w l (length now) b
    = subst (λ ys. AreReady m ys w l (length now) b) (rest-here (λ ys. ys) operand_view rest i x c.loop-op-test.true c.loop-op-item.is) c.loop-op.invariant.ready in
    let second = c.widths_at-at.result.second in
    let context = c.widths_at-at.result.context in
    let is_context : context ≡ taken ranges c.widths_at-at.result.own xs w = c.widths_at-at.ensures.context ∙ ap (λ k. taken ranges c.widths_at-at.result.own (map operand_view (drop (k + 1) rest)) w) c.loop-op.invariant.next in
    let step = ready-step m (operand_view x) xs w l (length now) b (own_width (ranges_in m) (expression x.1)) c.widths_at-at.result.own context second ready
    refl c.widths_at-at.ensures.own is_context c.widths_at-at.ensures.second in
    let mid = c.lower_at.new.steps.items in
    let more = c.in_ok-more.more.items in
    let few = steps-few nets ranges (expression x.1) second now mid more step.fits c.in_ok-more.ensures in
    let is_left : length c.deref.result.now ≡ b = ap length c.deref.ensures.value in
    let is_right : length c.deref-in-loop-op.result.now ≡ second = ap length c.deref-in-loop-op.ensures.value ∙ bits-long nets ranges (expression x.1) second now mid more step.fits c.in_ok-more.ensures in
    omega (arith, ap₂ (word_cells x.0) is_left is_right, step.few, step.room, few)

pub words-extended-requires : goal.words-extended-requires
words-extended-requires t c =
    let m = module_facts c.args.scope.now in
    let ranges = ranges_in m in
    let nets = c.args.scope.now.nets.items in
    let i = c.loop-op.op-index in
    let x = c.loop-op-item.result in
    let rest = c.args.rest.now in
    let w = c.args.width in
    let l = c.loop-op.own in
    let now = c.loop-op.steps.items in
    let b = length c.loop-op.bits.items in
    let xs = map operand_view (drop (i + 1) rest) in
    let ready : AreReady m (operand_view x ∷ xs) w l (length now) b
    = subst (λ ys. AreReady m ys w l (length now) b) (rest-here (λ ys. ys) operand_view rest i x c.loop-op-test.true c.loop-op-item.is) c.loop-op.invariant.ready in
    let second = c.widths_at-at.result.second in
    let context = c.widths_at-at.result.context in
    let is_context : context ≡ taken ranges c.widths_at-at.result.own xs w = c.widths_at-at.ensures.context ∙ ap (λ k. taken ranges c.widths_at-at.result.own (map operand_view (drop (k + 1) rest)) w) c.loop-op.invariant.next in
    let step = ready-step m (operand_view x) xs w l (length now) b (own_width (ranges_in m) (expression x.1)) c.widths_at-at.result.own context second ready
    refl c.widths_at-at.ensures.own is_context c.widths_at-at.ensures.second in
    let mid = c.lower_at.new.steps.items in
    let more = c.in_ok-more.more.items in
    let few = steps-few nets ranges (expression x.1) second now mid more step.fits c.in_ok-more.ensures in
    let is_left : length c.deref.result.now ≡ b = ap length c.deref.ensures.value in
    let is_right : length c.deref-in-loop-op.result.now ≡ second = ap length c.deref-in-loop-op.ensures.value ∙ bits-long nets ranges (expression x.1) second now mid more step.fits c.in_ok-more.ensures in
    omega (arith, ap₂ (word_cells x.0) is_left is_right, step.few, step.room, step.top, few, c.in_ok-places.ensures.grown)

pub words-loop-op-preserved : goal.words-loop-op-preserved
words-loop-op-preserved t c =
    let m = module_facts c.args.scope.now in
    let ranges = ranges_in m in
    let nets = c.args.scope.now.nets.items in
    let i = c.loop-op.op-index in
    let x = c.loop-op-item.result in
    let rest = c.args.rest.now in
    let w = c.args.width in
    let l = c.loop-op.own in
    let now = c.loop-op.steps.items in
    let b = length c.loop-op.bits.items in
    let xs = map operand_view (drop (i + 1) rest) in
    let ready : AreReady m (operand_view x ∷ xs) w l (length now) b
    = subst (λ ys. AreReady m ys w l (length now) b) (rest-here (λ ys. ys) operand_view rest i x c.loop-op-test.true c.loop-op-item.is) c.loop-op.invariant.ready in
    let second = c.widths_at-at.result.second in
    let context = c.widths_at-at.result.context in
    let is_context : context ≡ taken ranges c.widths_at-at.result.own xs w = c.widths_at-at.ensures.context ∙ ap (λ k. taken ranges c.widths_at-at.result.own (map operand_view (drop (k + 1) rest)) w) c.loop-op.invariant.next in
    let step = ready-step m (operand_view x) xs w l (length now) b (own_width (ranges_in m) (expression x.1)) c.widths_at-at.result.own context second ready
    refl c.widths_at-at.ensures.own is_context c.widths_at-at.ensures.second in
    let mid = c.lower_at.new.steps.items in
    let more = c.in_ok-more.more.items in
    let few = steps-few nets ranges (expression x.1) second now mid more step.fits c.in_ok-more.ensures in
    let is_left : length c.deref.result.now ≡ b = ap length c.deref.ensures.value in
    let is_right : length c.deref-in-loop-op.result.now ≡ second = ap length c.deref-in-loop-op.ensures.value ∙ bits-long nets ranges (expression x.1) second now mid more step.fits c.in_ok-more.ensures in
    let cells = ap₂ (word_cells x.0) is_left is_right in
    let wide = ap length c.deref-in-loop-op-2.ensures.value ∙ c.in_ok-places.ensures.count ∙ ap (word_width x.0) is_left in
    record {
      next = ap (λ k. k + 1) c.loop-op.invariant.next;
      made = λ p old adds.
          words-more nets ranges (operand_view x) xs w l b c.widths_at-at.result.own context second (words_on ranges p c.args.left (map operand_view rest) w) old now mid c.extended.new.steps.items
          c.loop-op.bits.items more c.in_ok-bits.bits.items step.all
          (subst (λ ys. IsWorded nets ranges w l ys (words_on ranges p c.args.left (map operand_view rest) w) old now c.loop-op.bits.items)
          (rest-here (λ ys. ys) operand_view rest i x c.loop-op-test.true c.loop-op-item.is) (c.loop-op.invariant.made p old adds))
          c.in_ok-more.ensures
          (λ q r one two. c.in_ok-bits.ensures.made nets (word_joined x.0 q r) old
          (subst (Adds nets (word_joined x.0 q r) old c.word.new.steps.items) (sym c.deref-in-loop-op-2.ensures.value)
          (c.in_ok-places.ensures.made nets q r old now (subst (Adds nets q old now) (sym c.deref.ensures.value) one) (subst (Adds nets r now mid) (sym c.deref-in-loop-op.ensures.value) two))));
      ready = step.next (length c.extended.new.steps.items) (length c.in_ok-bits.bits.items)
          (omega (arith, c.in_ok-bits.ensures.grown, wide, step.narrow, c.in_ok-places.ensures.grown, cells, few)) (omega (arith, c.in_ok-bits.ensures.count, wide, step.narrow));
    }

pub words-returns : goal.words-returns
words-returns t c = λ m old adds.
    words-ended c.args.scope.now.nets.items (ranges_in (module_facts c.args.scope.now)) operand_view c.args.width c.loop-op.own c.args.rest.now c.loop-op.op-index _ old c.loop-op.steps.items c.loop-op.bits.items
    c.loop-op-test.false (c.loop-op.invariant.made m old adds)
