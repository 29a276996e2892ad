use Rattle.std.proofs.Common.{◌≡◌, ℕ, Bool, true, false, List, [], All, Vec, Global, length, map, vec_items, sym, ap, ◌∙◌, subst, arith}
use Rattle.std.specs.Cmp.Lexicographic.{pointwise}
use Rattle.std.proofs.lemmas.Bool.{MatchBool-at_true, MatchBool-at_false}
use Rattle.std.proofs.lemmas.List.{get_or-map, get_or_default, length-map}
use Rattle.indexmap.specs.IndexSet.{keys}
use mathlib.Core.Bool.{beq}
use Rattle.bb_net.specs.Equivalence.{SomeWrong, AllRight}
use Rattle.bb_net.specs.Values.{bit_of, flat}
use Rattle.bb_tern.specs.Inside.Lanes.{pattern_at}
use Rattle.bb_miter.specs.Inside.Equivalence.{DiffersAt, SameAt}
use Rattle.bb_miter.proofs.TakenVectors.{all_inserted, few_inserted, some_inserted, up_to}
use Rattle.bb_miter.proofs.patterns.add_differing_among.Goals.{then-index+then-len-wanted+in_ok-from_slice+in_ok-insert, else-index, else-index-via-then-index+else-len-wanted, else-index-via-else-index}
use Rattle.bb_miter.proofs.patterns.add_differing_among.Goals as goal

abbrev same_vector : Vec Bool Global → Vec Bool Global → Bool
same_vector x y = pointwise beq (vec_items x) (vec_items y)

pub loop-k-preserved : goal.loop-k-preserved
loop-k-preserved c = elim c.if-index.branch [
  | then-index+then-len-wanted+in_ok-from_slice+in_ok-insert w ↦
      let spec = c.args.spec.now in
      let imp = c.args.imp.now in
      let patterns = c.args.patterns.now in
      let k = c.loop-k.k in
      let old = c.loop-k.found.keys in
      let new = c.if-index.found.keys in
      let pattern = c.index-patterns-k.result in
      let vector = w.in_ok-from_slice.field-0 in
      let same : vector.items ≡ pattern.items = w.in_ok-from_slice.ensures.items ∙ w.deref.ensures.value in
      let inserted = ap keys w.found-is ∙ w.in_ok-insert.ensures.keys in
      let at : pattern_at (map vec_items patterns) k ≡ vector.items = get_or-map vec_items patterns k pattern [] c.loop-k-test.true ∙ (ap vec_items (sym c.index-patterns-k.is) ∙ sym same) in
      let mark : bit_of c.in_ok-marks.marks.items k ≡ true = get_or_default c.in_ok-marks.marks.items k false c.index.result.now (omega (arith, c.loop-k-test.true, c.in_ok-marks.ensures.len)) ∙ (sym c.index.ensures ∙ w.if-index.true) in
      let x = pattern_at (map vec_items patterns) k in
      let wrong = MatchBool-at_true (SomeWrong spec imp x (flat imp x [])) (AllRight spec imp x (flat imp x [])) mark (c.in_ok-marks.ensures.marks k c.loop-k-test.true) in
      let width : length x ≡ imp.inputs = ap length at ∙ (ap length same ∙ (ap (λ (p : Vec Bool Global). length p.items) c.index-patterns-k.is ∙ c.requires.inputs k pattern c.loop-k-test.true)) in
      record {
        differ = all_inserted vec_items same_vector old new vector inserted (DiffersAt spec imp) c.loop-k.invariant.differ (subst (DiffersAt spec imp) at (width, wrong));
        few = omega (arith, few_inserted vec_items same_vector old new vector inserted, w.if-len-wanted.true, w.len.ensures.len);
        none = λ e. absurd (some_inserted vec_items same_vector old new vector inserted e);
      }
  | else-index w ↦
      let spec = c.args.spec.now in
      let imp = c.args.imp.now in
      let x = pattern_at (map vec_items c.args.patterns.now) c.loop-k.k in
      let right : ℕ → Type 0 = λ j. SameAt spec imp (pattern_at (map vec_items c.args.patterns.now) j) in
      let same : c.if-index.found.keys ≡ c.loop-k.found.keys = ap keys w.found-is in
      record {
        differ = subst (λ (xs : List (Vec Bool Global)). All (DiffersAt spec imp) (map vec_items xs)) (sym same) c.loop-k.invariant.differ;
        few = omega (arith, ap length same, c.loop-k.invariant.few);
        none = λ e.
            let before = c.loop-k.invariant.none (sym same ∙ e) in (
              before.0,
              up_to right before.1 (elim w.else-index.branch [
                | else-index-via-then-index+else-len-wanted v ↦ absurd (omega (arith, v.if-len-wanted.false, v.len.ensures.len, ap length (sym same ∙ e), c.requires.wanted))
                | else-index-via-else-index v ↦
                    let mark : bit_of c.in_ok-marks.marks.items c.loop-k.k ≡ false = get_or_default c.in_ok-marks.marks.items c.loop-k.k false c.index.result.now (omega (arith, c.loop-k-test.true, c.in_ok-marks.ensures.len)) ∙ (sym c.index.ensures ∙ v.if-index.false) in
                    MatchBool-at_false (SomeWrong spec imp x (flat imp x [])) (AllRight spec imp x (flat imp x [])) mark (c.in_ok-marks.ensures.marks c.loop-k.k c.loop-k-test.true)
              ]),
            );
      }
]

pub returns-clause-none : goal.returns-clause-none
returns-clause-none c = λ e.
    let patterns = map vec_items c.args.patterns.now in
    let none = c.loop-k.invariant.none e in (
      none.0,
      λ k d l. subst (SameAt c.args.spec.now c.args.imp.now) (get_or_default patterns k [] d l) (none.1 k (omega (arith, l, length-map c.args.patterns.now vec_items, c.loop-k-test.false, c.loop-k.auto.k-end))),
    )
