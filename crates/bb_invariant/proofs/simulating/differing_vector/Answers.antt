use Rattle.std.proofs.Common.{◌-◌, ◌∙◌, ℕ, Bool, [], All, Option, Vec, Global, inl, inr, map, take, drop, vec_items, subst, arith}
use Rattle.std.specs.Prelude.{IfNone}
use Rattle.std.proofs.lemmas.Bool.{cases_lt}
use Rattle.std.proofs.lemmas.List.{get_or_default, length-map}
use Rattle.bb_miter.specs.Inside.Equivalence.{SameAt}
use Rattle.bb_invariant.proofs.Sliced.{in_slice}
use Rattle.bb_invariant.proofs.simulating.differing_vector.Goals as goal

pub loop-start-preserved : goal.loop-start-preserved
loop-start-preserved c =
    let spec = c.args.spec.now in
    let imp = c.args.imp.now in
    let vectors = c.args.vectors.now in
    let start = c.loop-start.start in
    let n : ℕ = c.min-end.result - start in
    let none = subst (λ (found : Option (Vec Bool Global)). IfNone found (All (SameAt spec imp) (map vec_items (take n (drop start vectors))))) c.in_default.is c.in_ok-x.ensures.none in
    record {
      within = omega (arith, c.min-end.ensures, c.loop-start-test.true);
      same = λ j l. elim (cases_lt j start) [
        | inl earlier ↦ c.loop-start.invariant.same j earlier
        | inr afterwards ↦ in_slice vec_items (SameAt spec imp) vectors start n j [] (omega (arith, c.min-end.ensures, c.loop-start-test.true)) none afterwards (omega (arith, l, afterwards))
      ];
    }

pub unreachable-requires : goal.unreachable-requires
unreachable-requires c =
    let spec = c.args.spec.now in
    let imp = c.args.imp.now in
    let vectors = map vec_items c.args.vectors.now in
    let (x, (k, l, at), (j, is_output, wrong)) = c.requires.some in
    let same = subst (SameAt spec imp) (get_or_default vectors k [] x l ∙ at) (c.loop-start.invariant.same k (omega (arith, l, length-map c.args.vectors.now vec_items, c.loop-start-test.false))) in
    wrong (same j is_output)
