use Rattle.std.proofs.Common.{◌≡◌, ◌+◌, ◌++◌, ◌*◌, true, false, refl, ap, sym, subst, ◌∙◌, map, arith}
use Rattle.std.specs.Prelude.{sum, is_none, IfOk}
use Rattle.std.specs.Option.{option_or}
use Rattle.bb_names.specs.Declarations.{range_of}
use Rattle.std.proofs.lemmas.Result.{on_ok_weaker}
use Rattle.std.specs.List.{flat_map}
use Rattle.bb_ast.specs.Inside.Views.{expression, operand_view, arm_view, module_view}
use Rattle.bb_ast.specs.declared.expr.Expr.TheVariants.{outs-Net, outs-Bit, outs-Part, outs-Sized, outs-Plain, outs-Not, outs-Fold, outs-Chain, outs-Words, outs-Concat, outs-Cond, outs-Repeat}
use Rattle.bb_ast.specs.declared.expr.Expr.{out-Expr}
use Rattle.bb_names.specs.Faults.{width_in, wrong_width}
use Rattle.bb_names.specs.Inside.Firsts.{noted, use_of, sites_of_part, inner_sites, saturated, words_width, first_of, first_reported}
use Rattle.bb_names.specs.Ranges.{distance}
use Rattle.bb_names.specs.Sites.{Whole, sites_in}
use Rattle.bb_names.specs.Widths.{greatest}
use Rattle.bb_names.proofs.ExpressionViews.{view-of, sites-chain, sites-words, sites-cond, sites-concat, sites-repeat, width-chain, width-words, width-cond, width-concat, width-repeat}
use Rattle.bb_names.proofs.Noting.{noted-none, seen-all, noted-turn, noted-all, noted-then, noted-part, noted-whole, put-left, kept-left}
use Rattle.bb_names.proofs.WidthLemmas.{greatest-turn, words-turn, sum-turn, saturated-max, saturated-times}
use Rattle.bb_names.proofs.faults.expressions.+expression.Goals as goal

pub look_at_operands-loop-operand-preserved : goal.look_at_operands-loop-operand-preserved
look_at_operands-loop-operand-preserved t c =
    let m = module_view c.args.of.now in
    let i = c.loop-operand.operand-index in
    record {
      noted = λ text. noted-turn text m (λ x. sites_in (use_of c.args.role) x.1) operand_view c.args.rest.now i c.loop-operand-item.result c.args.found.now c.loop-operand.found c.look.new.found c.loop-operand-test.true c.loop-operand-item.is (c.loop-operand.invariant.noted text) (c.in_ok-look.ensures.noted text);
      width = greatest-turn (λ x. width_in m x.1) operand_view c.args.rest.now i c.loop-operand-item.result c.loop-operand.width c.in_ok-look.field-0 c.wider-width.result c.loop-operand-test.true c.loop-operand-item.is c.loop-operand.invariant.width c.in_ok-look.ensures.width c.wider-width.ensures;
    }

pub look_at_operands-returns-clause-noted : goal.look_at_operands-returns-clause-noted
look_at_operands-returns-clause-noted t c = λ text. noted-all text (module_view c.args.of.now) (λ x. sites_in (use_of c.args.role) x.1) operand_view c.args.rest.now c.loop-operand.operand-index c.args.found.now c.loop-operand.found c.loop-operand-test.false (c.loop-operand.invariant.noted text)

pub look_at_words-loop-op-preserved : goal.look_at_words-loop-op-preserved
look_at_words-loop-op-preserved t c =
    let m = module_view c.args.of.now in
    let i = c.loop-op.op-index in
    record {
      noted = λ text. noted-turn text m (λ x. sites_in (use_of c.args.role) x.1) operand_view c.args.rest.now i c.loop-op-item.result c.args.found.now c.loop-op.found c.look.new.found c.loop-op-test.true c.loop-op-item.is (c.loop-op.invariant.noted text) (c.in_ok-right.ensures.noted text);
      width = λ left is. words-turn (λ x. (x.0, width_in m x.1)) operand_view c.args.rest.now i c.loop-op-item.result left c.loop-op.width c.in_ok-right.right c.operator_width-width.result c.loop-op-test.true c.loop-op-item.is (c.loop-op.invariant.width left is) c.in_ok-right.ensures.width c.operator_width-width.ensures;
    }

pub look_at_words-loop-op-init : goal.look_at_words-loop-op-init
look_at_words-loop-op-init t c = record { noted = λ text. sym (noted-none text (module_view c.args.of.now) c.args.found.now); width = λ left is. is }

pub look_at_words-returns-clause-noted : goal.look_at_words-returns-clause-noted
look_at_words-returns-clause-noted t c = λ text. noted-all text (module_view c.args.of.now) (λ x. sites_in (use_of c.args.role) x.1) operand_view c.args.rest.now c.loop-op.op-index c.args.found.now c.loop-op.found c.loop-op-test.false (c.loop-op.invariant.noted text)

pub look_at_words-returns-clause-width : goal.look_at_words-returns-clause-width
look_at_words-returns-clause-width t c = λ left is.
    c.loop-op.invariant.width left is ∙ ap (λ z. saturated (words_width left (map (λ x. (x.0, width_in (module_view c.args.of.now) x.1)) z))) (seen-all operand_view c.args.rest.now c.loop-op.op-index c.loop-op-test.false)

pub look_at_arms-loop-condition-preserved : goal.look_at_arms-loop-condition-preserved
look_at_arms-loop-condition-preserved t c =
    let m = module_view c.args.of.now in
    let i = c.loop-condition.condition-index in
    let how = use_of c.args.role in
    let x = c.loop-condition-item.result in
    record {
      noted = λ text. noted-turn text m (λ x. sites_in how x.0 ++ sites_in how x.1) arm_view c.args.arms.now i x c.args.found.now c.loop-condition.found c.look-in-loop-condition.new.found c.loop-condition-test.true c.loop-condition-item.is (c.loop-condition.invariant.noted text)
          (noted-then text m c.loop-condition.found c.look.new.found c.look-in-loop-condition.new.found (sites_in how (expression x.0)) (sites_in how (expression x.1)) (c.in_ok-look.ensures.noted text) (c.in_ok-look-2.ensures.noted text));
      width = greatest-turn (λ x. width_in m x.1) arm_view c.args.arms.now i x c.loop-condition.width c.in_ok-look-2.field-0 c.wider-width.result c.loop-condition-test.true c.loop-condition-item.is c.loop-condition.invariant.width c.in_ok-look-2.ensures.width c.wider-width.ensures;
    }

pub look_at_arms-returns-clause-noted : goal.look_at_arms-returns-clause-noted
look_at_arms-returns-clause-noted t c = λ text.
    noted-all text (module_view c.args.of.now) (λ x. sites_in (use_of c.args.role) x.0 ++ sites_in (use_of c.args.role) x.1) arm_view c.args.arms.now c.loop-condition.condition-index c.args.found.now c.loop-condition.found c.loop-condition-test.false (c.loop-condition.invariant.noted text)

pub look_at_part-returns-clause-noted : goal.look_at_part-returns-clause-noted
look_at_part-returns-clause-noted t c = λ text.
    on_ok_weaker c.look.result (λ step. noted-part text (module_view c.args.of.now) c.args.found.now (use_of c.args.role) (expression c.args.part.now) c.is_number.result c.note_word.new.slot c.look.new.found (sym c.is_number.ensures) c.in_ok-note_word.ensures step) (c.look.ensures.noted text)

pub look_at_parts-loop-part-preserved : goal.look_at_parts-loop-part-preserved
look_at_parts-loop-part-preserved t c =
    let m = module_view c.args.of.now in
    let i = c.loop-part.part-index in
    record {
      noted = λ text. noted-turn text m (sites_of_part (use_of c.args.role)) expression c.args.parts.now i c.part-item.result c.args.found.now c.loop-part.found c.look_at_part.new.found c.loop-part-test.true c.part-item.is (c.loop-part.invariant.noted text) (c.in_ok-more.ensures.noted text);
      width = sum-turn (width_in m) expression c.args.parts.now i c.part-item.result c.loop-part.width c.in_ok-more.more c.saturating_add-width.result c.loop-part-test.true c.part-item.is c.loop-part.invariant.width c.in_ok-more.ensures.width c.saturating_add-width.ensures;
    }

pub look_at_parts-returns-clause-noted : goal.look_at_parts-returns-clause-noted
look_at_parts-returns-clause-noted t c = λ text. noted-all text (module_view c.args.of.now) (sites_of_part (use_of c.args.role)) expression c.args.parts.now c.loop-part.part-index c.args.found.now c.loop-part.found c.loop-part-test.false (c.loop-part.invariant.noted text)

pub look-returns-in_ok-note_before-clause-noted : goal.look-returns-in_ok-note_before-clause-noted
look-returns-in_ok-note_before-clause-noted t c = λ text.
    let m = module_view c.args.of.now in
    let f = c.args.found.now in
    let e = expression c.args.expr.now in
    let inner = inner_sites (use_of c.args.role) e in
    let before = c.in_ok-width.ensures.noted text in
    let free : is_none f.width ≡ true = grind (arith, c.is_none-free.ensures, c.if-free.true) in
    let word = c.word_of.ensures text m (width_in m e) refl c.in_ok-width.ensures.width in
    noted-whole text m f c.look_inside.new.found e inner c.note_before.new.slot before
    (put-left f.width (first_of (wrong_width text m (Whole e))) (first_reported wrong_width text m inner) c.look_inside.new.found.width c.note_before.new.slot (ap (λ z. z.width) before) free
    (c.in_ok-note_before.ensures ∙ ap (λ w. option_or w c.look_inside.new.found.width) word))

pub look-returns-else-free-clause-noted : goal.look-returns-else-free-clause-noted
look-returns-else-free-clause-noted t c = λ text.
    let m = module_view c.args.of.now in
    let f = c.args.found.now in
    let e = expression c.args.expr.now in
    let inner = inner_sites (use_of c.args.role) e in
    let before = c.in_ok-width.ensures.noted text in
    let free : is_none f.width ≡ false = grind (arith, c.is_none-free.ensures, c.if-free.false) in
    noted-whole text m f c.look_inside.new.found e inner c.look_inside.new.found.width before
    (kept-left f.width (first_of (wrong_width text m (Whole e))) (first_reported wrong_width text m inner) c.look_inside.new.found.width (ap (λ z. z.width) before) free)

pub look_inside-returns-in-Not-clause-noted : goal.look_inside-returns-in-Not-clause-noted
look_inside-returns-in-Not-clause-noted t c = λ text.
    let m = module_view c.args.of.now in
    let how = use_of c.args.role in
    let view = view-of c.args.expr.now _ (ap out-Expr c.in-Not.is ∙ outs-Not c.in-Not.field-0 c.in-Not.operand) in
    on_ok_weaker c.look.result (λ step. step ∙ ap (λ e. noted text m c.args.found.now (sites_in how (expression e))) c.deref.ensures ∙ ap (λ z. noted text m c.args.found.now (inner_sites how z)) (sym view)) (c.look.ensures.noted text)

pub look_inside-returns-in_ok-look_at_operands-in-Chain-clause-noted : goal.look_inside-returns-in_ok-look_at_operands-in-Chain-clause-noted
look_inside-returns-in_ok-look_at_operands-in-Chain-clause-noted t c = λ text.
    let m = module_view c.args.of.now in
    let f = c.args.found.now in
    let how = use_of c.args.role in
    let view = view-of c.args.expr.now _ (ap out-Expr c.in-Chain.is ∙ outs-Chain c.in-Chain.first c.in-Chain.rest) in
    let all = ap (inner_sites how) view ∙ sites-chain how (expression c.in-Chain.first.value) (map operand_view c.in-Chain.rest.items) in
    noted-then text m f c.look-in-Chain.new.found c.look_at_operands.new.found (sites_in how (expression c.in-Chain.first.value)) (flat_map (λ x. sites_in how x.1) (map operand_view c.in-Chain.rest.items))
    (c.in_ok-width-in-Chain.ensures.noted text ∙ ap (λ e. noted text m f (sites_in how (expression e))) c.deref-in-Chain.ensures)
    (c.in_ok-look_at_operands-in-Chain.ensures.noted text ∙ ap (λ es. noted text m c.look-in-Chain.new.found (flat_map (λ x. sites_in how x.1) (map operand_view es))) c.deref-in-Chain-2.ensures.value)
    ∙ ap (noted text m f) (sym all)

pub look_inside-returns-in_ok-look_at_operands-in-Chain-clause-width : goal.look_inside-returns-in_ok-look_at_operands-in-Chain-clause-width
look_inside-returns-in_ok-look_at_operands-in-Chain-clause-width t c =
    let m = module_view c.args.of.now in
    let view = view-of c.args.expr.now _ (ap out-Expr c.in-Chain.is ∙ outs-Chain c.in-Chain.first c.in-Chain.rest) in
    let all = ap (width_in m) view ∙ width-chain (range_of m) (expression c.in-Chain.first.value) (map operand_view c.in-Chain.rest.items) in
    saturated-max c.in_ok-width-in-Chain.width c.in_ok-look_at_operands-in-Chain.field-0 c.wider.result (width_in m (expression c.in-Chain.first.value)) (greatest (map (λ x. width_in m x.1) (map operand_view c.in-Chain.rest.items)))
    (c.in_ok-width-in-Chain.ensures.width ∙ ap (λ e. saturated (width_in m (expression e))) c.deref-in-Chain.ensures)
    (c.in_ok-look_at_operands-in-Chain.ensures.width ∙ ap (λ es. saturated (greatest (map (λ x. width_in m x.1) (map operand_view es)))) c.deref-in-Chain-2.ensures.value)
    c.wider.ensures ∙ ap saturated (sym all)

pub look_inside-returns-in_ok-look-in-Fold-clause-noted : goal.look_inside-returns-in_ok-look-in-Fold-clause-noted
look_inside-returns-in_ok-look-in-Fold-clause-noted t c = λ text.
    let m = module_view c.args.of.now in
    let how = use_of c.args.role in
    let view = view-of c.args.expr.now _ (ap out-Expr c.in-Fold.is ∙ outs-Fold c.in-Fold.field-0 c.in-Fold.operand) in
    c.in_ok-look-in-Fold.ensures.noted text ∙ ap (λ e. noted text m c.args.found.now (sites_in how (expression e))) c.deref-in-Fold.ensures ∙ ap (λ z. noted text m c.args.found.now (inner_sites how z)) (sym view)

pub look_inside-returns-in_ok-width-in-Words-clause-noted : goal.look_inside-returns-in_ok-width-in-Words-clause-noted
look_inside-returns-in_ok-width-in-Words-clause-noted t c = λ text.
    let m = module_view c.args.of.now in
    let f = c.args.found.now in
    let how = use_of c.args.role in
    let first = expression c.in-Words.first.value in
    let rest = map operand_view c.in-Words.rest.items in
    let view = view-of c.args.expr.now _ (ap out-Expr c.in-Words.is ∙ outs-Words c.in-Words.first c.in-Words.rest) in
    let all = ap (inner_sites how) view ∙ sites-words how first rest in
    on_ok_weaker c.look_at_words.result (λ step. noted-then text m f c.look-in-Words.new.found c.look_at_words.new.found (sites_in how first) (flat_map (λ x. sites_in how x.1) rest)
    (c.in_ok-width-in-Words.ensures.noted text ∙ ap (λ e. noted text m f (sites_in how (expression e))) c.deref-in-Words.ensures)
    (step ∙ ap (λ es. noted text m c.look-in-Words.new.found (flat_map (λ x. sites_in how x.1) (map operand_view es))) c.deref-in-Words-2.ensures.value)
    ∙ ap (noted text m f) (sym all)) (c.look_at_words.ensures.noted text)

pub look_inside-returns-in_ok-width-in-Words-clause-width : goal.look_inside-returns-in_ok-width-in-Words-clause-width
look_inside-returns-in_ok-width-in-Words-clause-width t c =
    let m = module_view c.args.of.now in
    let first = expression c.in-Words.first.value in
    let rest = map operand_view c.in-Words.rest.items in
    let view = view-of c.args.expr.now _ (ap out-Expr c.in-Words.is ∙ outs-Words c.in-Words.first c.in-Words.rest) in
    let all = ap (width_in m) view ∙ width-words (range_of m) first rest in
    subst (λ z. IfOk c.look_at_words.result (λ w. w ≡ saturated z)) (ap (λ es. words_width (width_in m first) (map (λ x. (x.0, width_in m x.1)) (map operand_view es))) c.deref-in-Words-2.ensures.value ∙ sym all)
    (c.look_at_words.ensures.width (width_in m first) (c.in_ok-width-in-Words.ensures.width ∙ ap (λ e. saturated (width_in m (expression e))) c.deref-in-Words.ensures))

pub look_inside-returns-in_ok-look-in-Cond-clause-noted : goal.look_inside-returns-in_ok-look-in-Cond-clause-noted
look_inside-returns-in_ok-look-in-Cond-clause-noted t c = λ text.
    let m = module_view c.args.of.now in
    let f = c.args.found.now in
    let how = use_of c.args.role in
    let view = view-of c.args.expr.now _ (ap out-Expr c.in-Cond.is ∙ outs-Cond c.in-Cond.arms c.in-Cond.last) in
    let all = ap (inner_sites how) view ∙ sites-cond how (map arm_view c.in-Cond.arms.items) (expression c.in-Cond.last.value) in
    noted-then text m f c.look_at_arms.new.found c.look-in-Cond.new.found (flat_map (λ x. sites_in how x.0 ++ sites_in how x.1) (map arm_view c.in-Cond.arms.items)) (sites_in how (expression c.in-Cond.last.value))
    (c.in_ok-width-in-Cond.ensures.noted text ∙ ap (λ es. noted text m f (flat_map (λ x. sites_in how x.0 ++ sites_in how x.1) (map arm_view es))) c.deref-in-Cond.ensures.value)
    (c.in_ok-look-in-Cond.ensures.noted text ∙ ap (λ e. noted text m c.look_at_arms.new.found (sites_in how (expression e))) c.deref-in-Cond-2.ensures)
    ∙ ap (noted text m f) (sym all)

pub look_inside-returns-in_ok-look-in-Cond-clause-width : goal.look_inside-returns-in_ok-look-in-Cond-clause-width
look_inside-returns-in_ok-look-in-Cond-clause-width t c =
    let m = module_view c.args.of.now in
    let view = view-of c.args.expr.now _ (ap out-Expr c.in-Cond.is ∙ outs-Cond c.in-Cond.arms c.in-Cond.last) in
    let all = ap (width_in m) view ∙ width-cond (range_of m) (map arm_view c.in-Cond.arms.items) (expression c.in-Cond.last.value) in
    saturated-max c.in_ok-width-in-Cond.width c.in_ok-look-in-Cond.field-0 c.wider-in-Cond.result (greatest (map (λ x. width_in m x.1) (map arm_view c.in-Cond.arms.items))) (width_in m (expression c.in-Cond.last.value))
    (c.in_ok-width-in-Cond.ensures.width ∙ ap (λ es. saturated (greatest (map (λ x. width_in m x.1) (map arm_view es)))) c.deref-in-Cond.ensures.value)
    (c.in_ok-look-in-Cond.ensures.width ∙ ap (λ e. saturated (width_in m (expression e))) c.deref-in-Cond-2.ensures)
    c.wider-in-Cond.ensures ∙ ap saturated (sym all)

pub look_inside-returns-in-Concat-clause-noted : goal.look_inside-returns-in-Concat-clause-noted
look_inside-returns-in-Concat-clause-noted t c = λ text.
    let m = module_view c.args.of.now in
    let f = c.args.found.now in
    let how = use_of c.args.role in
    let view = view-of c.args.expr.now _ (ap out-Expr c.in-Concat.is ∙ outs-Concat c.in-Concat.parts) in
    let all = ap (inner_sites how) view ∙ sites-concat how (map expression c.in-Concat.parts.items) in
    on_ok_weaker c.look_at_parts.result (λ step. step ∙ ap (λ es. noted text m f (flat_map (sites_of_part how) (map expression es))) c.deref-in-Concat.ensures.value ∙ ap (noted text m f) (sym all)) (c.look_at_parts.ensures.noted text)

pub look_inside-returns-in-Concat-clause-width : goal.look_inside-returns-in-Concat-clause-width
look_inside-returns-in-Concat-clause-width t c =
    let m = module_view c.args.of.now in
    let view = view-of c.args.expr.now _ (ap out-Expr c.in-Concat.is ∙ outs-Concat c.in-Concat.parts) in
    let all = ap (width_in m) view ∙ width-concat (range_of m) (map expression c.in-Concat.parts.items) in
    subst (λ z. IfOk c.look_at_parts.result (λ w. w ≡ saturated z)) (ap (λ es. sum (map (width_in m) (map expression es))) c.deref-in-Concat.ensures.value ∙ sym all) c.look_at_parts.ensures.width

pub look-returns-in_ok-note_before-clause-width : goal.look-returns-in_ok-note_before-clause-width
look-returns-in_ok-note_before-clause-width t c = c.in_ok-width.ensures.width

pub look-returns-else-free-clause-width : goal.look-returns-else-free-clause-width
look-returns-else-free-clause-width t c = c.in_ok-width.ensures.width

pub look_at_operands-loop-operand-init : goal.look_at_operands-loop-operand-init
look_at_operands-loop-operand-init t c = record { noted = λ text. sym (noted-none text (module_view c.args.of.now) c.args.found.now); width = refl }

pub look_at_operands-returns-clause-width : goal.look_at_operands-returns-clause-width
look_at_operands-returns-clause-width t c =
    c.loop-operand.invariant.width ∙ ap (λ z. saturated (greatest (map (λ x. width_in (module_view c.args.of.now) x.1) z))) (seen-all operand_view c.args.rest.now c.loop-operand.operand-index c.loop-operand-test.false)

pub look_at_arms-loop-condition-init : goal.look_at_arms-loop-condition-init
look_at_arms-loop-condition-init t c = record { noted = λ text. sym (noted-none text (module_view c.args.of.now) c.args.found.now); width = refl }

pub look_at_arms-returns-clause-width : goal.look_at_arms-returns-clause-width
look_at_arms-returns-clause-width t c =
    c.loop-condition.invariant.width ∙ ap (λ z. saturated (greatest (map (λ x. width_in (module_view c.args.of.now) x.1) z))) (seen-all arm_view c.args.arms.now c.loop-condition.condition-index c.loop-condition-test.false)

pub look_at_part-returns-clause-width : goal.look_at_part-returns-clause-width
look_at_part-returns-clause-width t c = c.look.ensures.width

pub look_at_parts-loop-part-init : goal.look_at_parts-loop-part-init
look_at_parts-loop-part-init t c = record { noted = λ text. sym (noted-none text (module_view c.args.of.now) c.args.found.now); width = refl }

pub look_at_parts-returns-clause-width : goal.look_at_parts-returns-clause-width
look_at_parts-returns-clause-width t c =
    c.loop-part.invariant.width ∙ ap (λ z. saturated (sum (map (width_in (module_view c.args.of.now)) z))) (seen-all expression c.args.parts.now c.loop-part.part-index c.loop-part-test.false)

pub look_at_copies-returns-clause-noted : goal.look_at_copies-returns-clause-noted
look_at_copies-returns-clause-noted t c = c.in_ok-width.ensures.noted

pub look_at_copies-returns-clause-width : goal.look_at_copies-returns-clause-width
look_at_copies-returns-clause-width t c =
    saturated-times c.in_ok-width.width c.saturating_mul.result (sum (map (width_in (module_view c.args.of.now)) (map expression c.args.parts.now))) c.args.count
    c.in_ok-width.ensures.width (c.saturating_mul.ensures ∙ ap (λ k. saturated (c.in_ok-width.width * k)) c.from.ensures)

pub look_inside-returns-in-Net-clause-noted : goal.look_inside-returns-in-Net-clause-noted
look_inside-returns-in-Net-clause-noted t c = λ text.
    let view = view-of c.args.expr.now _ (ap out-Expr c.in-Net.is ∙ outs-Net c.in-Net.name) in
    on_ok_weaker c.look_at_net.result (λ step. step ∙ ap (λ z. noted text (module_view c.args.of.now) c.args.found.now (inner_sites (use_of c.args.role) z)) (sym view)) (c.look_at_net.ensures.noted text)

pub look_inside-returns-in-Net-clause-width : goal.look_inside-returns-in-Net-clause-width
look_inside-returns-in-Net-clause-width t c =
    let m = module_view c.args.of.now in
    let view = view-of c.args.expr.now _ (ap out-Expr c.in-Net.is ∙ outs-Net c.in-Net.name) in
    subst (λ z. IfOk c.look_at_net.result (λ w. w ≡ saturated z)) (sym (ap (width_in m) view)) c.look_at_net.ensures.width

pub look_inside-returns-in-Bit-clause-noted : goal.look_inside-returns-in-Bit-clause-noted
look_inside-returns-in-Bit-clause-noted t c = λ text.
    let view = view-of c.args.expr.now _ (ap out-Expr c.in-Bit.is ∙ outs-Bit c.in-Bit.name c.in-Bit.i) in
    on_ok_weaker c.look_at_bits.result (λ step. step ∙ ap (λ z. noted text (module_view c.args.of.now) c.args.found.now (inner_sites (use_of c.args.role) z)) (sym view)) (c.look_at_bits.ensures.noted text)

pub look_inside-returns-in-Bit-clause-width : goal.look_inside-returns-in-Bit-clause-width
look_inside-returns-in-Bit-clause-width t c =
    let m = module_view c.args.of.now in
    let view = view-of c.args.expr.now _ (ap out-Expr c.in-Bit.is ∙ outs-Bit c.in-Bit.name c.in-Bit.i) in
    let one : distance c.in-Bit.i c.in-Bit.i + 1 ≡ 1 = omega arith in
    subst (λ z. IfOk c.look_at_bits.result (λ w. w ≡ saturated z)) (one ∙ sym (ap (width_in m) view)) c.look_at_bits.ensures.width

pub look_inside-returns-in-Part-clause-noted : goal.look_inside-returns-in-Part-clause-noted
look_inside-returns-in-Part-clause-noted t c = λ text.
    let view = view-of c.args.expr.now _ (ap out-Expr c.in-Part.is ∙ outs-Part c.in-Part.name c.in-Part.i c.in-Part.j) in
    on_ok_weaker c.look_at_bits-in-Part.result (λ step. step ∙ ap (λ z. noted text (module_view c.args.of.now) c.args.found.now (inner_sites (use_of c.args.role) z)) (sym view)) (c.look_at_bits-in-Part.ensures.noted text)

pub look_inside-returns-in-Part-clause-width : goal.look_inside-returns-in-Part-clause-width
look_inside-returns-in-Part-clause-width t c =
    let m = module_view c.args.of.now in
    let view = view-of c.args.expr.now _ (ap out-Expr c.in-Part.is ∙ outs-Part c.in-Part.name c.in-Part.i c.in-Part.j) in
    subst (λ z. IfOk c.look_at_bits-in-Part.result (λ w. w ≡ saturated z)) (sym (ap (width_in m) view)) c.look_at_bits-in-Part.ensures.width

pub look_inside-returns-in-Plain-clause-noted : goal.look_inside-returns-in-Plain-clause-noted
look_inside-returns-in-Plain-clause-noted t c = λ text.
    let m = module_view c.args.of.now in
    let view = view-of c.args.expr.now _ (ap out-Expr c.in-Plain.is ∙ outs-Plain c.in-Plain.field-0) in
    sym (noted-none text m c.args.found.now) ∙ ap (λ z. noted text m c.args.found.now (inner_sites (use_of c.args.role) z)) (sym view)

pub look_inside-returns-in-Sized-clause-noted : goal.look_inside-returns-in-Sized-clause-noted
look_inside-returns-in-Sized-clause-noted t c = λ text.
    let m = module_view c.args.of.now in
    let view = view-of c.args.expr.now _ (ap out-Expr c.in-Sized.is ∙ outs-Sized c.in-Sized.bits) in
    sym (noted-none text m c.args.found.now) ∙ ap (λ z. noted text m c.args.found.now (inner_sites (use_of c.args.role) z)) (sym view)

pub look_inside-returns-in-Not-clause-width : goal.look_inside-returns-in-Not-clause-width
look_inside-returns-in-Not-clause-width t c =
    let m = module_view c.args.of.now in
    let view = view-of c.args.expr.now _ (ap out-Expr c.in-Not.is ∙ outs-Not c.in-Not.field-0 c.in-Not.operand) in
    subst (λ z. IfOk c.look.result (λ w. w ≡ saturated z)) (ap (λ e. width_in m (expression e)) c.deref.ensures ∙ sym (ap (width_in m) view)) c.look.ensures.width

pub look_inside-returns-in-Repeat-clause-noted : goal.look_inside-returns-in-Repeat-clause-noted
look_inside-returns-in-Repeat-clause-noted t c = λ text.
    let m = module_view c.args.of.now in
    let f = c.args.found.now in
    let how = use_of c.args.role in
    let view = view-of c.args.expr.now _ (ap out-Expr c.in-Repeat.is ∙ outs-Repeat c.in-Repeat.count c.in-Repeat.parts) in
    let all = ap (inner_sites how) view ∙ sites-repeat how c.in-Repeat.count (map expression c.in-Repeat.parts.items) in
    on_ok_weaker c.look_at_copies.result (λ step. step ∙ ap (λ es. noted text m f (flat_map (sites_of_part how) (map expression es))) c.deref-in-Repeat.ensures.value ∙ ap (noted text m f) (sym all)) (c.look_at_copies.ensures.noted text)

pub look_inside-returns-in-Repeat-clause-width : goal.look_inside-returns-in-Repeat-clause-width
look_inside-returns-in-Repeat-clause-width t c =
    let m = module_view c.args.of.now in
    let view = view-of c.args.expr.now _ (ap out-Expr c.in-Repeat.is ∙ outs-Repeat c.in-Repeat.count c.in-Repeat.parts) in
    let all = ap (width_in m) view ∙ width-repeat (range_of m) c.in-Repeat.count (map expression c.in-Repeat.parts.items) in
    subst (λ z. IfOk c.look_at_copies.result (λ w. w ≡ saturated z)) (ap (λ es. c.in-Repeat.count * sum (map (width_in m) (map expression es))) c.deref-in-Repeat.ensures.value ∙ sym all) c.look_at_copies.ensures.width
