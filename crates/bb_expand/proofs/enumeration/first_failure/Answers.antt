use Rattle.std.proofs.Common.{ℕ, ◌+◌, ◌^◌, ◌<◌, length, ap, subst, sym, ◌∙◌, inl, inr, arith}
use Rattle.std.proofs.lemmas.Bool.{cases_eq}
use Rattle.bb_bits.specs.Numbers.{bits_of}
use Rattle.bb_subst.specs.Distinguishing.{AreEquivalentAt, FailAt}
use Rattle.bb_net.specs.Kinds.{per_box}
use Rattle.bb_expand.proofs.AllVectors.{agree_from_all}
use Rattle.bb_expand.proofs.ExpandedVectors.{count_is, few_inputs_left}
use Rattle.bb_expand.proofs.Pieces.{all_hold}
use Rattle.bb_expand.proofs.Spelled.{spelled_bits}
use Rattle.bb_expand.proofs.enumeration.first_failure.Goals as goal

one_more : (P : ℕ → Type 0) (n : ℕ) → ((k : ℕ) → k < n → P k) → P n → (k : ℕ) → k < n + 1 → P k
one_more P n before here k h = elim (cases_eq k n) [
  | inl e ↦ subst P (sym e) here
  | inr ne ↦ before k (omega (arith, h, ne))
]

pub overflow_shl-number-end : goal.overflow_shl-number-end
overflow_shl-number-end c =
    let few = few_inputs_left c.args.pair.now c.imp-imp.result.now c.inputs-number-end.result c.imp-imp.ensures.kept c.imp-imp.ensures.imp c.requires.few c.inputs-number-end.ensures.inputs in
    omega (arith, few.1)

pub spell-requires : goal.spell-requires
spell-requires c =
    let few = few_inputs_left c.args.pair.now c.imp-imp.result.now c.inputs-number-end.result c.imp-imp.ensures.kept c.imp-imp.ensures.imp c.requires.few c.inputs-number-end.ensures.inputs in
    record { few = omega (arith, few.0, few.1, c.deref_mut.ensures.len, c.loop-number.invariant.x) }

pub returns-then-fails_at-clause-found : goal.returns-then-fails_at-clause-found
returns-then-fails_at-clause-found c =
    let bits = spelled_bits c.loop-number.x c.deref_mut.result.now c.spell.new.bits c.args.pair.now.imp.inputs c.loop-number.number c.loop-number.invariant.x c.deref_mut.ensures.len c.spell.auto.bits c.spell.ensures in (
      ap length bits ∙ c.laws_below.ensures.numbering.width c.args.pair.now.imp.inputs c.loop-number.number,
      subst (FailAt c.args.pair.now.spec c.args.pair.now.imp (per_box c.args.pair.now.kinds c.args.tables.now)) c.deref.ensures.value
          (c.fails_at.ensures.yes c.if-fails_at.true),
    )

pub loop-number-preserved : goal.loop-number-preserved
loop-number-preserved c =
    let bits = spelled_bits c.loop-number.x c.deref_mut.result.now c.spell.new.bits c.args.pair.now.imp.inputs c.loop-number.number c.loop-number.invariant.x c.deref_mut.ensures.len c.spell.auto.bits c.spell.ensures in
    record {
      x = c.loop-number.invariant.x;
      bits = c.loop-number.invariant.bits;
      wanted = c.loop-number.invariant.wanted;
      before = one_more (λ k. AreEquivalentAt c.args.pair.now.spec c.args.pair.now.imp (per_box c.args.pair.now.kinds c.args.tables.now) (bits_of c.args.pair.now.imp.inputs k)) c.loop-number.number c.loop-number.invariant.before
          (subst (AreEquivalentAt c.args.pair.now.spec c.args.pair.now.imp (per_box c.args.pair.now.kinds c.args.tables.now)) (c.deref.ensures.value ∙ bits)
          (c.fails_at.ensures.no c.if-fails_at.false));
    }

pub returns-clause-none : goal.returns-clause-none
returns-clause-none c =
    let count = count_is c.args.pair.now c.imp-imp.result.now c.inputs-number-end.result c.imp-imp.ensures.kept c.imp-imp.ensures.imp c.requires.few c.inputs-number-end.ensures.inputs in
    agree_from_all c.laws_below.ensures.numbering c.args.pair.now.spec c.args.pair.now.imp (per_box c.args.pair.now.kinds c.args.tables.now)
    (all_hold (AreEquivalentAt c.args.pair.now.spec c.args.pair.now.imp (per_box c.args.pair.now.kinds c.args.tables.now)) (bits_of c.args.pair.now.imp.inputs) (2 ^ c.args.pair.now.imp.inputs) (λ k h. c.loop-number.invariant.before k (omega (arith, h, count, c.loop-number-test.false))))
