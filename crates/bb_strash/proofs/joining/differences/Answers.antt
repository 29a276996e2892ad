use Rattle.std.proofs.Common.{◌+◌, ◌*◌, ◌<◌, ◌∷◌, [], ℕ, List, length, sym, ap, ◌∙◌, subst, arith}
use Rattle.std.specs.Prelude.{slice_index}
use Rattle.std.proofs.lemmas.List.{length-append}
use Rattle.bb_net.specs.Values.{xor}
use Rattle.bb_strash.specs.Inside.Extensions.{bit, Gives}
use Rattle.bb_strash.proofs.Copied.{difference_next}
use Rattle.bb_strash.proofs.GateBits.{at_most, then_more}
use Rattle.bb_strash.proofs.joining.differences.Goals as goal

pub loop-j-preserved : goal.loop-j-preserved
loop-j-preserved c =
    let j = c.loop-j.j in
    let start = c.args.hashed.now in
    let old = c.loop-j.hashed in
    let new = c.add.new.self in
    let all = c.loop-j.all.items in
    let place = c.in_ok-place.place in
    let f : ℕ → ℕ = λ i. slice_index c.args.places.now (slice_index c.args.outs.now i) in
    let g : ℕ → ℕ = λ i. slice_index c.args.other_places.now (slice_index c.args.other_outs.now i) in
    let lt : j < length c.args.outs.now = omega (arith, c.loop-j-test.true) in
    let extends = c.in_ok-place.ensures.extends in
    let next = difference_next c.bits.ensures.stay start old new (5 * j) 5 f g j all place c.place_of.result c.place_of-in-loop-j.result c.loop-j.invariant.0 extends
    c.place_of.ensures.place c.place_of-in-loop-j.ensures.place (c.requires.there j lt) (c.requires.other j lt) c.loop-j.invariant.1 c.loop-j.invariant.2 c.in_ok-place.ensures.gives in (
      at_most start new (5 * j + 5) (5 * (j + 1)) (omega arith) (then_more start old new (5 * j) 5 c.loop-j.invariant.0 extends),
      ap length c.in_ok-push.ensures.items ∙ length-append all (place ∷ []) ∙ ap (λ n. n + 1) c.loop-j.invariant.1,
      λ i h. subst (λ (l : List ℕ). Gives new (slice_index l i) (λ x. xor (bit start x (f i)) (bit start x (g i)))) (sym c.in_ok-push.ensures.items) (next i h),
    )
