use Rattle.std.proofs.Common.{◌++◌, ap, sym, ◌∙◌, map}
use Rattle.std.specs.Prelude.{option_map}
use Rattle.std.specs.Option.{option_or}
use Rattle.std.specs.List.{flat_map}
use Rattle.bb_ast.specs.Names.{names_in}
use Rattle.bb_ast.specs.Inside.Views.{expression, operand_view, arm_view}
use Rattle.bb_ast.specs.declared.expr.Expr.TheVariants.{outs-Chain, outs-Words, outs-Concat, outs-Cond, outs-Repeat}
use Rattle.bb_ast.specs.declared.expr.Expr.{out-Expr}
use Rattle.bb_names.specs.Inside.Firsts.{first_of}
use Rattle.bb_names.proofs.ExpressionViews.{view-of, names-chain, names-words, names-cond, names-concat, names-repeat}
use Rattle.bb_names.proofs.Noting.{first_of-append, first-found, first-more, seen-all}
use Rattle.bb_names.proofs.faults.registers.+first.Goals as goal

pub first_name-returns-in-None : goal.first_name-returns-in-None
first_name-returns-in-None t c =
    let e = expression c.in-Chain.first.value in
    let rest = map operand_view c.in-Chain.rest.items in
    let view = view-of c.args.expr.now _ (ap out-Expr c.in-Chain.is ∙ outs-Chain c.in-Chain.first c.in-Chain.rest) in
    let none = sym (ap (option_map (λ n. n.now)) c.in-None.is) ∙ c.first_name-in-Chain.ensures ∙ ap (λ z. first_of (names_in (expression z))) c.deref-in-Chain.ensures in
    c.first_of_operands.ensures ∙ ap (λ es. first_of (flat_map (λ x. names_in x.1) (map operand_view es))) c.deref-in-None.ensures.value
    ∙ sym (ap first_of (ap names_in view ∙ names-chain e rest) ∙ first_of-append (names_in e) (flat_map (λ x. names_in x.1) rest) ∙ ap (λ o. option_or o (first_of (flat_map (λ x. names_in x.1) rest))) (sym none))

pub first_name-returns-in-None-first_name : goal.first_name-returns-in-None-first_name
first_name-returns-in-None-first_name t c =
    let e = expression c.in-Words.first.value in
    let rest = map operand_view c.in-Words.rest.items in
    let view = view-of c.args.expr.now _ (ap out-Expr c.in-Words.is ∙ outs-Words c.in-Words.first c.in-Words.rest) in
    let none = sym (ap (option_map (λ n. n.now)) c.in-None-first_name.is) ∙ c.first_name-in-Words.ensures ∙ ap (λ z. first_of (names_in (expression z))) c.deref-in-Words.ensures in
    c.first_of_words.ensures ∙ ap (λ es. first_of (flat_map (λ x. names_in x.1) (map operand_view es))) c.deref-in-None-first_name.ensures.value
    ∙ sym (ap first_of (ap names_in view ∙ names-words e rest) ∙ first_of-append (names_in e) (flat_map (λ x. names_in x.1) rest) ∙ ap (λ o. option_or o (first_of (flat_map (λ x. names_in x.1) rest))) (sym none))

pub first_name-returns-in-Some-first_of_arms : goal.first_name-returns-in-Some-first_of_arms
first_name-returns-in-Some-first_of_arms t c =
    let e = expression c.in-Cond.last.value in
    let all = map arm_view c.in-Cond.arms.items in
    let view = view-of c.args.expr.now _ (ap out-Expr c.in-Cond.is ∙ outs-Cond c.in-Cond.arms c.in-Cond.last) in
    let some = sym (ap (option_map (λ n. n.now)) c.in-Some-first_of_arms.is) ∙ c.first_of_arms.ensures ∙ ap (λ es. first_of (flat_map (λ x. names_in x.0 ++ names_in x.1) (map arm_view es))) c.deref-in-Cond.ensures.value in
    sym (ap first_of (ap names_in view ∙ names-cond all e) ∙ first_of-append (flat_map (λ x. names_in x.0 ++ names_in x.1) all) (names_in e) ∙ ap (λ o. option_or o (first_of (names_in e))) (sym some))

pub first_name-returns-in-None-first_of_arms : goal.first_name-returns-in-None-first_of_arms
first_name-returns-in-None-first_of_arms t c =
    let e = expression c.in-Cond.last.value in
    let all = map arm_view c.in-Cond.arms.items in
    let view = view-of c.args.expr.now _ (ap out-Expr c.in-Cond.is ∙ outs-Cond c.in-Cond.arms c.in-Cond.last) in
    let none = sym (ap (option_map (λ n. n.now)) c.in-None-first_of_arms.is) ∙ c.first_of_arms.ensures ∙ ap (λ es. first_of (flat_map (λ x. names_in x.0 ++ names_in x.1) (map arm_view es))) c.deref-in-Cond.ensures.value in
    c.first_name-in-None-first_of_arms.ensures ∙ ap (λ z. first_of (names_in (expression z))) c.deref-in-None-first_of_arms.ensures
    ∙ sym (ap first_of (ap names_in view ∙ names-cond all e) ∙ first_of-append (flat_map (λ x. names_in x.0 ++ names_in x.1) all) (names_in e) ∙ ap (λ o. option_or o (first_of (names_in e))) (sym none))

pub first_name-returns-in-Concat : goal.first_name-returns-in-Concat
first_name-returns-in-Concat t c =
    let view = view-of c.args.expr.now _ (ap out-Expr c.in-Concat.is ∙ outs-Concat c.in-Concat.parts) in
    c.first_of_parts.ensures ∙ ap (λ es. first_of (flat_map names_in (map expression es))) c.deref-in-Concat.ensures.value ∙ sym (ap first_of (ap names_in view ∙ names-concat (map expression c.in-Concat.parts.items)))

pub first_name-returns-in-Repeat : goal.first_name-returns-in-Repeat
first_name-returns-in-Repeat t c =
    let view = view-of c.args.expr.now _ (ap out-Expr c.in-Repeat.is ∙ outs-Repeat c.in-Repeat.field-0 c.in-Repeat.parts) in
    c.first_of_parts-in-Repeat.ensures ∙ ap (λ es. first_of (flat_map names_in (map expression es))) c.deref-in-Repeat.ensures.value ∙ sym (ap first_of (ap names_in view ∙ names-repeat c.in-Repeat.field-0 (map expression c.in-Repeat.parts.items)))

pub first_of_arms-returns-in-Some : goal.first_of_arms-returns-in-Some
first_of_arms-returns-in-Some t c =
    let x = c.loop-condition-item.result in
    sym (first-found (λ y. names_in y.0 ++ names_in y.1) arm_view c.args.arms.now c.loop-condition.condition-index x c.in-Some.name.now c.loop-condition-test.true c.loop-condition-item.is c.loop-condition.invariant
    (first_of-append (names_in (expression x.0)) (names_in (expression x.1)) ∙ ap (λ o. option_or o (first_of (names_in (expression x.1)))) (sym c.first_name.ensures ∙ ap (option_map (λ n. n.now)) c.in-Some.is)))

pub first_of_arms-returns-in-Some-first_name : goal.first_of_arms-returns-in-Some-first_name
first_of_arms-returns-in-Some-first_name t c =
    let x = c.loop-condition-item.result in
    sym (first-found (λ y. names_in y.0 ++ names_in y.1) arm_view c.args.arms.now c.loop-condition.condition-index x c.in-Some-first_name.name.now c.loop-condition-test.true c.loop-condition-item.is c.loop-condition.invariant
    (first_of-append (names_in (expression x.0)) (names_in (expression x.1)) ∙ ap (λ o. option_or o (first_of (names_in (expression x.1)))) (sym c.first_name.ensures ∙ ap (option_map (λ n. n.now)) c.in_default.is)
    ∙ sym c.first_name-in-loop-condition.ensures ∙ ap (option_map (λ n. n.now)) c.in-Some-first_name.is))

pub first_of_operands-returns-in-Some : goal.first_of_operands-returns-in-Some
first_of_operands-returns-in-Some t c =
    sym (first-found (λ y. names_in y.1) operand_view c.args.rest.now c.loop-operand.operand-index c.loop-operand-item.result c.in-Some.name.now c.loop-operand-test.true c.loop-operand-item.is c.loop-operand.invariant (sym c.first_name.ensures ∙ ap (option_map (λ n. n.now)) c.in-Some.is))

pub first_of_words-returns-in-Some : goal.first_of_words-returns-in-Some
first_of_words-returns-in-Some t c =
    sym (first-found (λ y. names_in y.1) operand_view c.args.rest.now c.loop-operand.operand-index c.loop-operand-item.result c.in-Some.name.now c.loop-operand-test.true c.loop-operand-item.is c.loop-operand.invariant (sym c.first_name.ensures ∙ ap (option_map (λ n. n.now)) c.in-Some.is))

pub first_of_parts-returns-in-Some : goal.first_of_parts-returns-in-Some
first_of_parts-returns-in-Some t c =
    sym (first-found names_in expression c.args.parts.now c.loop-part.part-index c.part-item.result c.in-Some.name.now c.loop-part-test.true c.part-item.is c.loop-part.invariant (sym c.first_name.ensures ∙ ap (option_map (λ n. n.now)) c.in-Some.is))

pub first_of_operands-loop-operand-preserved : goal.first_of_operands-loop-operand-preserved
first_of_operands-loop-operand-preserved t c =
    first-more (λ y. names_in y.1) operand_view c.args.rest.now c.loop-operand.operand-index c.loop-operand-item.result c.loop-operand-test.true c.loop-operand-item.is c.loop-operand.invariant
    (sym c.first_name.ensures ∙ ap (option_map (λ n. n.now)) c.in_default.is)

pub first_of_operands-returns : goal.first_of_operands-returns
first_of_operands-returns t c = sym (sym (ap (λ z. first_of (flat_map (λ y. names_in y.1) z)) (seen-all operand_view c.args.rest.now c.loop-operand.operand-index c.loop-operand-test.false)) ∙ c.loop-operand.invariant)

pub first_of_words-loop-operand-preserved : goal.first_of_words-loop-operand-preserved
first_of_words-loop-operand-preserved t c =
    first-more (λ y. names_in y.1) operand_view c.args.rest.now c.loop-operand.operand-index c.loop-operand-item.result c.loop-operand-test.true c.loop-operand-item.is c.loop-operand.invariant
    (sym c.first_name.ensures ∙ ap (option_map (λ n. n.now)) c.in_default.is)

pub first_of_words-returns : goal.first_of_words-returns
first_of_words-returns t c = sym (sym (ap (λ z. first_of (flat_map (λ y. names_in y.1) z)) (seen-all operand_view c.args.rest.now c.loop-operand.operand-index c.loop-operand-test.false)) ∙ c.loop-operand.invariant)

pub first_of_parts-loop-part-preserved : goal.first_of_parts-loop-part-preserved
first_of_parts-loop-part-preserved t c =
    first-more names_in expression c.args.parts.now c.loop-part.part-index c.part-item.result c.loop-part-test.true c.part-item.is c.loop-part.invariant
    (sym c.first_name.ensures ∙ ap (option_map (λ n. n.now)) c.in_default.is)

pub first_of_parts-returns : goal.first_of_parts-returns
first_of_parts-returns t c = sym (sym (ap (λ z. first_of (flat_map names_in z)) (seen-all expression c.args.parts.now c.loop-part.part-index c.loop-part-test.false)) ∙ c.loop-part.invariant)

pub first_of_arms-loop-condition-preserved : goal.first_of_arms-loop-condition-preserved
first_of_arms-loop-condition-preserved t c =
    first-more (λ y. names_in y.0 ++ names_in y.1) arm_view c.args.arms.now c.loop-condition.condition-index c.loop-condition-item.result c.loop-condition-test.true c.loop-condition-item.is c.loop-condition.invariant
    (first_of-append (names_in (expression c.loop-condition-item.result.0)) (names_in (expression c.loop-condition-item.result.1))
    ∙ ap (λ o. option_or o (first_of (names_in (expression c.loop-condition-item.result.1)))) (sym c.first_name.ensures ∙ ap (option_map (λ n. n.now)) c.in_default.is)
    ∙ sym c.first_name-in-loop-condition.ensures ∙ ap (option_map (λ n. n.now)) c.in_default-first_name.is)

pub first_of_arms-returns : goal.first_of_arms-returns
first_of_arms-returns t c = sym (sym (ap (λ z. first_of (flat_map (λ y. names_in y.0 ++ names_in y.1) z)) (seen-all arm_view c.args.arms.now c.loop-condition.condition-index c.loop-condition-test.false)) ∙ c.loop-condition.invariant)
