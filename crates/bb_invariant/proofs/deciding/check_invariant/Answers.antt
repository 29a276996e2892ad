use Rattle.std.proofs.Common.{◌≡◌, ◌∙◌, ◌≤◌, ℕ, Option, ap, length, subst, subst₂, sym}
use Rattle.std.specs.Prelude.{IfOk}
use Rattle.std.proofs.lemmas.Result.{IfOk-weaker}
use Rattle.bb_miter.specs.Inside.Equivalence.{AreComparable}
use Rattle.bb_net.specs.Flats.{FlatNet}
use Rattle.bb_net.specs.Netlists.{IsNetlist, Netlist}
use Rattle.bb_unroll.specs.Unrolled.{never, unrolled_inputs, violation}
use Rattle.bb_invariant.specs.Inside.Answers.{AreTooLarge, IsAnswer}
use Rattle.bb_invariant.specs.declared.deciding.Invariance.{Invariance}
use Rattle.bb_invariant.proofs.Violations.{comparable, difference_breaks, equivalent_keeps, never_cells, never_is, violation_cells, violation_output}
use Rattle.bb_invariant.proofs.deciding.check_invariant.Goals.{After-compare}
use Rattle.bb_invariant.proofs.deciding.check_invariant.Goals as goal

pub compare-requires-clause-comparable : goal.compare-requires-clause-comparable
compare-requires-clause-comparable c =
    let f = c.args.spec.now in
    let zero = never_is f c.args.invariant c.args.care c.in_ok-violation.violation c.inputs.result c.in_ok-never.never c.in_ok-violation.ensures.net c.inputs.ensures.inputs c.in_ok-never.ensures.net in
    subst₂ AreComparable (sym zero) (sym c.in_ok-violation.ensures.net) (comparable f c.args.invariant c.args.care c.requires.inputs)

pub compare-requires-clause-output : goal.compare-requires-clause-output
compare-requires-clause-output c = ap (λ (net : Netlist). length net.outs) c.in_ok-violation.ensures.net ∙ violation_output c.args.spec.now c.args.invariant c.args.care

pub compare-requires-clause-spec_cells : goal.compare-requires-clause-spec_cells
compare-requires-clause-spec_cells c =
    let f = c.args.spec.now in
    let zero = never_is f c.args.invariant c.args.care c.in_ok-violation.violation c.inputs.result c.in_ok-never.never c.in_ok-violation.ensures.net c.inputs.ensures.inputs c.in_ok-never.ensures.net in
    subst (λ (net : Netlist). length net.cells ≤ 8000000) (sym zero) (never_cells (unrolled_inputs f) c.requires.inputs)

pub compare-requires-clause-imp_cells : goal.compare-requires-clause-imp_cells
compare-requires-clause-imp_cells c = subst (λ (net : Netlist). length net.cells ≤ 8000000) (sym c.in_ok-violation.ensures.net) (violation_cells c.args.spec.now c.args.invariant c.args.care c.requires.can.is_flat c.requires.inputs)

-- an answer on violations and the netlist that is always 0
abbrev Answer : FlatNet → ℕ → Option ℕ → ℕ → ℕ → Invariance → Type 0
Answer f k care nodes clauses = IsAnswer (never (unrolled_inputs f)) (violation f k care) (AreTooLarge (never (unrolled_inputs f)) (violation f k care) nodes clauses)

module _ (c : After-compare) where
  zero : c.in_ok-never.never ≡ never (unrolled_inputs c.args.spec.now)
  zero =
      never_is c.args.spec.now c.args.invariant c.args.care c.in_ok-violation.violation c.inputs.result c.in_ok-never.never c.in_ok-violation.ensures.net c.inputs.ensures.inputs c.in_ok-never.ensures.net

  answered : IfOk c.compare.result (Answer c.args.spec.now c.args.invariant c.args.care c.args.nodes c.args.clauses)
  answered =
      subst₂ (λ (spec imp : Netlist). IfOk c.compare.result (IsAnswer spec imp (AreTooLarge spec imp c.args.nodes c.args.clauses))) zero c.in_ok-violation.ensures.net c.compare.ensures.answer

  never_kept : IsNetlist (never (unrolled_inputs c.args.spec.now))
  never_kept = subst IsNetlist zero c.keeps_its_order.ensures

  violation_kept : IsNetlist (violation c.args.spec.now c.args.invariant c.args.care)
  violation_kept = subst IsNetlist c.in_ok-violation.ensures.net c.keeps_its_order-2.ensures

pub returns-clause-kept : goal.returns-clause-kept
returns-clause-kept c = IfOk-weaker c.compare.result _ _ (λ answer is e.
    equivalent_keeps c.value_exists.ensures c.violations_are_seen.ensures c.args.spec.now c.args.invariant c.args.care c.requires.can c.requires.invariant c.requires.care (never_kept c) (violation_kept c)
    (subst (Answer c.args.spec.now c.args.invariant c.args.care c.args.nodes c.args.clauses) e is)) (answered c)

pub returns-clause-broken : goal.returns-clause-broken
returns-clause-broken c = IfOk-weaker c.compare.result _ _ (λ answer is x e.
    difference_breaks c.value_exists.ensures c.violations_are_seen.ensures c.args.spec.now c.args.invariant c.args.care c.requires.can c.requires.invariant c.requires.care (never_kept c) (violation_kept c)
    x.items (subst (Answer c.args.spec.now c.args.invariant c.args.care c.args.nodes c.args.clauses) e is)) (answered c)

pub returns-clause-open : goal.returns-clause-open
returns-clause-open c = IfOk-weaker c.compare.result _ _ (λ answer is e.
    let large = subst (Answer c.args.spec.now c.args.invariant c.args.care c.args.nodes c.args.clauses) e is in
    record { beads = large.0; more_clauses = large.1 }) (answered c)
