use Rattle.std.proofs.Common.{◌-◌, ℕ, inl, inr, map, vec_items, subst, arith, []}
use Rattle.std.proofs.lemmas.Bool.{cases_lt}
use Rattle.std.proofs.lemmas.List.{get_or_default, length-map}
use Rattle.bb_miter.specs.Inside.Equivalence.{SameAt}
use Rattle.bb_miter.proofs.TakenVectors.{in_part}
use Rattle.bb_miter.proofs.patterns.add_differing.Goals as goal

pub loop-start-preserved : goal.loop-start-preserved
loop-start-preserved c =
    let spec = c.args.spec.now in
    let imp = c.args.imp.now in
    let patterns = c.args.patterns.now in
    let start = c.loop-start.start in
    let n : ℕ = c.min-end.result - start in
    record {
      within = omega (arith, c.min-end.ensures, c.loop-start-test.true);
      differ = c.in_ok-add_differing_among.ensures.differ;
      few = c.in_ok-add_differing_among.ensures.few;
      none = λ e.
          let here = c.in_ok-add_differing_among.ensures.none e in
          let before = c.loop-start.invariant.none here.0 in (
            before.0,
            λ j l. elim (cases_lt j start) [
              | inl earlier ↦ before.1 j earlier
              | inr afterwards ↦ in_part vec_items (SameAt spec imp) patterns start n j (omega (arith, c.min-end.ensures, c.loop-start-test.true)) here.1 afterwards (omega (arith, l, afterwards))
            ],
          );
    }

pub returns-after-loop-start-clause-none : goal.returns-after-loop-start-clause-none
returns-after-loop-start-clause-none c = λ e.
    let patterns = map vec_items c.args.patterns.now in
    let none = c.loop-start.invariant.none e in (
      none.0,
      λ k d l. subst (SameAt c.args.spec.now c.args.imp.now) (get_or_default patterns k [] d l) (none.1 k (omega (arith, l, length-map c.args.patterns.now vec_items, c.loop-start-test.false))),
    )
