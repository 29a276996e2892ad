use Rattle.std.proofs.Common.{◌≡◌, ℕ, Bool, true, false, [], Vec, Global, length, map, vec_items, sym, ap, ◌∙◌, subst, arith}
use Rattle.std.proofs.lemmas.Bool.{MatchBool-at_true, MatchBool-at_false}
use Rattle.std.proofs.lemmas.List.{get_or-map, get_or_default, length-map}
use Rattle.bb_net.specs.Equivalence.{SomeWrong, AllRight}
use Rattle.bb_net.specs.Values.{bit_of, flat}
use Rattle.bb_tern.specs.Inside.Lanes.{pattern_at}
use Rattle.bb_miter.specs.Inside.Equivalence.{DiffersAt, SameAt}
use Rattle.bb_invariant.proofs.Sliced.{up_to}
use Rattle.bb_invariant.proofs.simulating.differing_among.Goals as goal

pub returns-then-index-clause-found : goal.returns-then-index-clause-found
returns-then-index-clause-found c =
    let spec = c.args.spec.now in
    let imp = c.args.imp.now in
    let vectors = c.args.vectors.now in
    let k = c.loop-k.k in
    let here = c.index-vectors-k.result in
    let x = pattern_at (map vec_items vectors) k in
    let same : c.in_ok-vector.vector.items ≡ here.items = c.in_ok-vector.ensures.items ∙ c.deref.ensures.value in
    let at : x ≡ c.in_ok-vector.vector.items = get_or-map vec_items vectors k here [] c.loop-k-test.true ∙ (ap vec_items (sym c.index-vectors-k.is) ∙ sym same) in
    let mark : bit_of c.in_ok-marks.marks.items k ≡ true = get_or_default c.in_ok-marks.marks.items k false c.index.result.now (omega (arith, c.loop-k-test.true, c.in_ok-marks.ensures.len)) ∙ (sym c.index.ensures ∙ c.if-index.true) in
    let wrong = MatchBool-at_true (SomeWrong spec imp x (flat imp x [])) (AllRight spec imp x (flat imp x [])) mark (c.in_ok-marks.ensures.marks k c.loop-k-test.true) in
    let wide : length x ≡ imp.inputs = ap length at ∙ (ap length same ∙ (ap (λ (v : Vec Bool Global). length v.items) c.index-vectors-k.is ∙ c.requires.inputs k here c.loop-k-test.true)) in
    subst (DiffersAt spec imp) at (wide, wrong)

pub loop-k-preserved : goal.loop-k-preserved
loop-k-preserved c =
    let spec = c.args.spec.now in
    let imp = c.args.imp.now in
    let k = c.loop-k.k in
    let x = pattern_at (map vec_items c.args.vectors.now) k in
    let same : ℕ → Type 0 = λ j. SameAt spec imp (pattern_at (map vec_items c.args.vectors.now) j) in
    let mark : bit_of c.in_ok-marks.marks.items k ≡ false = get_or_default c.in_ok-marks.marks.items k false c.index.result.now (omega (arith, c.loop-k-test.true, c.in_ok-marks.ensures.len)) ∙ (sym c.index.ensures ∙ c.if-index.false) in
    up_to same c.loop-k.invariant (MatchBool-at_false (SomeWrong spec imp x (flat imp x [])) (AllRight spec imp x (flat imp x [])) mark (c.in_ok-marks.ensures.marks k c.loop-k-test.true))

pub returns-clause-none : goal.returns-clause-none
returns-clause-none c = λ k d l.
    let vectors = map vec_items c.args.vectors.now in
    subst (SameAt c.args.spec.now c.args.imp.now) (get_or_default vectors k [] d l) (c.loop-k.invariant k (omega (arith, l, length-map c.args.vectors.now vec_items, c.loop-k-test.false, c.loop-k.auto.k-end)))
