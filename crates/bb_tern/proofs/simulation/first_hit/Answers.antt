use Rattle.std.proofs.Common.{◌≡◌, ◌+◌, ◌-◌, ℕ, map, take, drop, length, vec_items, subst, ◌∙◌, length-drop, arith}
use Rattle.std.proofs.lemmas.List.{length-map, length-take-le}
use Rattle.bb_tern.proofs.FirstHits.{NoneBelow, first_in_chunk, none_in_chunk, is_chunk}
use Rattle.bb_tern.proofs.simulation.first_hit.Goals as goal

pub returns-in-Some-clause-hit : goal.returns-in-Some-clause-hit
returns-in-Some-clause-hit c =
    let patterns = c.args.patterns.now in
    let start = c.loop-start.start in
    let n : ℕ = c.min-end.result - start in
    first_in_chunk c.args.pair.now.spec c.args.pair.now.imp (map vec_items patterns) (map vec_items (take n (drop start patterns))) start c.in-Some.k c.in-Some.output
    (is_chunk vec_items patterns start n (omega (arith, c.min-end.ensures, c.loop-start.invariant.0))) c.loop-start.invariant.2 c.in-Some.ensures.hit

pub loop-start-preserved : goal.loop-start-preserved
loop-start-preserved c =
    let patterns = c.args.patterns.now in
    let spec = c.args.pair.now.spec in
    let imp = c.args.pair.now.imp in
    let start = c.loop-start.start in
    let n : ℕ = c.min-end.result - start in
    let chunk = is_chunk vec_items patterns start n (omega (arith, c.min-end.ensures, c.loop-start.invariant.0)) in
    let size : length (map vec_items (take n (drop start patterns))) ≡ n =
    length-map (take n (drop start patterns)) vec_items ∙ length-take-le n (drop start patterns) (omega (arith, length-drop start patterns, c.min-end.ensures, c.loop-start.invariant.0)) in
    let at : start + length (map vec_items (take n (drop start patterns))) ≡ c.min-end.result = omega (arith, size, c.min-end.ensures, c.loop-start.invariant.0) in (
      omega (arith, c.min-end.ensures),
      c.in_default.ensures.room,
      subst (NoneBelow spec imp (map vec_items patterns)) at (none_in_chunk spec imp (map vec_items patterns) (map vec_items (take n (drop start patterns))) start chunk c.loop-start.invariant.2 c.in_default.ensures.none),
    )
