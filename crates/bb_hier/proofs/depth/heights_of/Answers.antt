use Rattle.std.proofs.Common.{◌<◌, All, length, map, subst, sym, ap, ◌∙◌, arith}
use Rattle.std.proofs.lemmas.List.{length-map}
use Rattle.bb_hier.proofs.DepthHeights.{AreHeights, no_rounds, one_round, low_heights}
use Rattle.bb_hier.proofs.depth.heights_of.Goals as goal

pub loop-round-init : goal.loop-round-init
loop-round-init c =
    no_rounds (map (λ list. list.items) c.args.callees.now) c.in_ok-heights.heights.items (length c.args.callees.now) (c.in_ok-heights.ensures.items_if_clones_equal (λ y same. same)) (sym (length-map c.args.callees.now (λ list. list.items)))
    (omega (arith, c.in_ok-heights.heights.ok, c.in_ok-heights.ensures.len))

pub next_heights-requires-clause-there : goal.next_heights-requires-clause-there
next_heights-requires-clause-there c =
    subst (λ n. All (All (λ k. k < n)) (map (λ list. list.items) c.args.callees.now)) (sym (ap length c.deref.ensures.value ∙ c.loop-round.invariant.long ∙ length-map c.args.callees.now (λ list. list.items))) c.requires.there

pub next_heights-requires-clause-low : goal.next_heights-requires-clause-low
next_heights-requires-clause-low c = subst (All (λ h. h < 64)) (sym c.deref.ensures.value) (low_heights (map (λ list. list.items) c.args.callees.now) c.loop-round._round c.loop-round.heights.items c.loop-round.invariant c.loop-round-test.true)

pub loop-round-preserved : goal.loop-round-preserved
loop-round-preserved c =
    one_round (map (λ list. list.items) c.args.callees.now) c.loop-round._round c.deref.result.now _
    (subst (AreHeights (map (λ list. list.items) c.args.callees.now) c.loop-round._round) (sym c.deref.ensures.value) c.loop-round.invariant) c.in_ok-heights-2.ensures.next

pub returns-clause-long : goal.returns-clause-long
returns-clause-long c = c.loop-round.invariant.long ∙ length-map c.args.callees.now (λ list. list.items)

pub returns-clause-tall : goal.returns-clause-tall
returns-clause-tall c = λ k n le. c.loop-round.invariant.tall k n (omega (arith, le, c.loop-round-test.false))
