use Rattle.std.proofs.Common.{◌≡◌, ◌+◌, ◌*◌, length, sym, ap, ◌∙◌, subst, arith}
use Rattle.std.proofs.lemmas.Bool.{false≢true}
use Rattle.std.proofs.lemmas.Result.{IfOk-weaker}
use Rattle.bb_expr.specs.Cells.{op_cells}
use Rattle.bb_expr.specs.Inside.Growing.{Adds, gated}
use Rattle.bb_expr.proofs.OperatorLemmas.{xnor-operated, plain-operated, op-some, op-once, xnor-twice}
use Rattle.bb_expr.proofs.operators.operate.Goals as goal

pub gates-requires : goal.gates-requires
gates-requires c = record { same = c.requires.same; room = omega (arith, c.requires.room, op-some c.args.op (length c.args.left.now)) }

pub inverted-requires : goal.inverted-requires
inverted-requires c =
    omega (arith, c.in_ok-places.ensures.grown, c.in_ok-places.ensures.count, ap length c.deref.ensures.value, c.requires.room, xnor-twice c.args.op (length c.args.left.now) (c.is_inverted.ensures.0 (c.if-is_inverted.true)))

pub returns-then-is_inverted-clause-made : goal.returns-then-is_inverted-clause-made
returns-then-is_inverted-clause-made c = λ nets m n old mid x y.
    IfOk-weaker c.inverted.result _ _ (λ places h. xnor-operated nets c.args.op m n old c.inverted.new.steps.items places.items (c.is_inverted.ensures.0 (c.if-is_inverted.true)) h)
    (c.inverted.ensures.made nets (gated c.args.op m n) old (subst (Adds nets (gated c.args.op m n) old c.gates.new.steps.items) (sym c.deref.ensures.value) (c.in_ok-places.ensures.made nets m n old mid x y)))

pub returns-then-is_inverted-clause-grown : goal.returns-then-is_inverted-clause-grown
returns-then-is_inverted-clause-grown c =
    IfOk-weaker c.inverted.result (λ places. length c.inverted.new.steps.items ≡ length c.gates.new.steps.items + length c.deref.result.now)
    (λ places. length c.inverted.new.steps.items ≡ length c.args.steps.now.items + op_cells c.args.op * length c.args.left.now)
    (λ places h. omega (arith, h, c.in_ok-places.ensures.grown, c.in_ok-places.ensures.count, ap length c.deref.ensures.value, xnor-twice c.args.op (length c.args.left.now) (c.is_inverted.ensures.0 (c.if-is_inverted.true))))
    c.inverted.ensures.grown

pub returns-else-is_inverted-clause-made : goal.returns-else-is_inverted-clause-made
returns-else-is_inverted-clause-made c = λ nets m n old mid x y.
    plain-operated nets c.args.op m n old c.gates.new.steps.items c.in_ok-places.places.items (λ same. false≢true (sym c.if-is_inverted.false ∙ c.is_inverted.ensures.1 same)) (c.in_ok-places.ensures.made nets m n old mid x y)

pub returns-else-is_inverted-clause-grown : goal.returns-else-is_inverted-clause-grown
returns-else-is_inverted-clause-grown c = omega (arith, c.in_ok-places.ensures.grown, op-once c.args.op (length c.args.left.now) (λ same. false≢true (sym c.if-is_inverted.false ∙ c.is_inverted.ensures.1 same)))

pub returns-then-is_inverted-clause-count : goal.returns-then-is_inverted-clause-count
returns-then-is_inverted-clause-count c =
    IfOk-weaker c.inverted.result (λ places. length places.items ≡ length c.deref.result.now) (λ places. length places.items ≡ length c.args.left.now)
    (λ places h. omega (arith, h, c.in_ok-places.ensures.count, ap length c.deref.ensures.value)) c.inverted.ensures.count

pub returns-else-is_inverted-clause-count : goal.returns-else-is_inverted-clause-count
returns-else-is_inverted-clause-count c = c.in_ok-places.ensures.count
