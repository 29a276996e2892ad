use Rattle.std.proofs.Common.{◌≡◌, ◌∙◌, length, map, vec_items, sym, ap, inl, inr, false, arith}
use Rattle.std.proofs.lemmas.Bool.{cases_lt}
use Rattle.bb_tern.specs.Inside.Lanes.{lane, pattern_at}
use Rattle.bb_tern.proofs.LaneLemmas.{lane_zero}
use Rattle.bb_tern.proofs.PackLemmas.{get_or-after, pattern_long}
use Rattle.bb_tern.proofs.packing.pack.Goals as goal

pub returns-clause-packed : goal.returns-clause-packed
returns-clause-packed c = λ k inside i.
    let rows = map vec_items c.args.patterns.now in
    let long : length (pattern_at rows k) ≡ length c.args.ins.now = pattern_long vec_items c.args.patterns.now (length c.args.ins.now) k c.requires.inputs inside in
    elim (cases_lt i c.loop-i.i) [
      | inl below ↦ c.loop-i.invariant.1 i k below inside
      | inr after ↦
          ap (λ w. lane w k) (get_or-after c.loop-i.ins i 0 (omega (arith, after, c.loop-i-test.false, c.loop-i.invariant.0)))
          ∙ (lane_zero k ∙ sym (get_or-after (pattern_at rows k) i false (omega (arith, after, long, c.loop-i-test.false, c.loop-i.invariant.0))))
    ]
