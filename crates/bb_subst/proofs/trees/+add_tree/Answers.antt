use Rattle.bb_subst.specs.Trees.{IsInTree}
use Rattle.std.proofs.Common.{◌+◌, ◌-◌, ◌^◌, ◌/◌, ◌<◌, ◌++◌, length, sym, ap₂, ◌∙◌, subst, arith, All}
use Rattle.std.proofs.lemmas.List.{take-append-drop}
use Rattle.std.proofs.lemmas.List.Elements.{All-tail, All-head, All-weaker}
use Rattle.std.proofs.lemmas.Result.{on_ok_weaker}
use Rattle.bb_subst.proofs.FilledTrees.{grow_on, grow_less, grow_tree, grow_constants, grow_long, grow_by_one, half_is, room_for_both, two_positive, pushed_only, pushed_tree, in_tree_stays, tree_there}
use Rattle.bb_subst.proofs.trees.+add_tree.Goals as goal

pub add_tree-requires : goal.add_tree-requires
add_tree-requires t c =
    let next = c.in-Some.ensures.cases.1 in
    let both = room_for_both (length c.in-Some.rest.now) (length c.args.pins.now) next in
    let pins = subst (All (λ k. k < length c.args.net.now.cells)) c.in-Some.ensures.cases.0 c.requires.there in (
      omega (arith, c.decreases, next),
      (
        c.split_at.ensures.front_len ∙ half_is (length c.args.column.now) (length c.args.pins.now) (length c.in-Some.rest.now) c.requires.column next,
        (
          All-tail (λ k. k < length c.args.net.now.cells) c.in-Some.choice.now c.in-Some.rest.now pins,
          (c.requires.constants, omega (arith, c.requires.room, both)),
        ),
      ),
    )

pub add_tree-requires-2 : goal.add_tree-requires-2
add_tree-requires-2 t c =
    let next = c.in-Some.ensures.cases.1 in
    let both = room_for_both (length c.in-Some.rest.now) (length c.args.pins.now) next in
    let grown = c.in_ok-low.ensures.grows in
    let long = grow_long c.args.net.now c.add_tree.new.net (2 ^ length c.in-Some.rest.now - 1) grown in
    let pins = subst (All (λ k. k < length c.args.net.now.cells)) c.in-Some.ensures.cases.0 c.requires.there in (
      omega (arith, c.decreases, next),
      (
        omega (arith, c.split_at.ensures.back_len, half_is (length c.args.column.now) (length c.args.pins.now) (length c.in-Some.rest.now) c.requires.column next, c.requires.column, both),
        (
          All-weaker (λ k. k < length c.args.net.now.cells) (λ k. k < length c.add_tree.new.net.cells) (λ k lt. omega (arith, lt, long.0)) c.in-Some.rest.now (All-tail (λ k. k < length c.args.net.now.cells) c.in-Some.choice.now c.in-Some.rest.now pins),
          (grow_constants c.args.net.now c.add_tree.new.net (2 ^ length c.in-Some.rest.now - 1) grown c.requires.constants, omega (arith, c.requires.room, both, long.1)),
        ),
      ),
    )

pub push-requires-clause-room : goal.push-requires-clause-room
push-requires-clause-room t c =
    let both = room_for_both (length c.in-Some.rest.now) (length c.args.pins.now) c.in-Some.ensures.cases.1 in
    let one = grow_long c.args.net.now c.add_tree.new.net (2 ^ length c.in-Some.rest.now - 1) c.in_ok-low.ensures.grows in
    let two = grow_long c.add_tree.new.net c.add_tree-2.new.net (2 ^ length c.in-Some.rest.now - 1) c.in_ok-high.ensures.grows in
    omega (arith, c.requires.room, both, one.1, two.1, two_positive (length c.in-Some.rest.now))

pub push-requires-clause-follows : goal.push-requires-clause-follows
push-requires-clause-follows t c =
    let one = grow_long c.args.net.now c.add_tree.new.net (2 ^ length c.in-Some.rest.now - 1) c.in_ok-low.ensures.grows in
    let two = grow_long c.add_tree.new.net c.add_tree-2.new.net (2 ^ length c.in-Some.rest.now - 1) c.in_ok-high.ensures.grows in
    let first = All-head (λ k. k < length c.args.net.now.cells) c.in-Some.choice.now c.in-Some.rest.now (subst (All (λ k. k < length c.args.net.now.cells)) c.in-Some.ensures.cases.0 c.requires.there) in
    let low = tree_there c.add_tree.new.net.cells c.in-Some.rest.now c.split_at.result.0.now c.in_ok-low.low c.in_ok-low.ensures.tree in
    (omega (arith, first, one.0, two.0), tree_there c.add_tree-2.new.net.cells c.in-Some.rest.now c.split_at.result.1.now c.in_ok-high.high c.in_ok-high.ensures.tree, omega (arith, low, two.0))

pub returns-clause-grows : goal.returns-clause-grows
returns-clause-grows t c =
    let n = 2 ^ length c.in-Some.rest.now - 1 in
    let both = room_for_both (length c.in-Some.rest.now) (length c.args.pins.now) c.in-Some.ensures.cases.1 in
    on_ok_weaker c.push.result (λ is. grow_less c.args.net.now c.push.new.self ((n + n) + 1) (2 ^ length c.args.pins.now - 1) (omega (arith, both, two_positive (length c.in-Some.rest.now)))
    (grow_on c.args.net.now c.add_tree-2.new.net c.push.new.self (n + n) 1 (grow_on c.args.net.now c.add_tree.new.net c.add_tree-2.new.net n n c.in_ok-low.ensures.grows c.in_ok-high.ensures.grows)
    (grow_by_one c.add_tree-2.new.net c.push.new.self c.in-Some.choice.now c.in_ok-high.high c.in_ok-low.low is))) c.push.ensures.ok

pub returns-clause-tree : goal.returns-clause-tree
returns-clause-tree t c =
    let half = half_is (length c.args.column.now) (length c.args.pins.now) (length c.in-Some.rest.now) c.requires.column c.in-Some.ensures.cases.1 in
    let both = room_for_both (length c.in-Some.rest.now) (length c.args.pins.now) c.in-Some.ensures.cases.1 in
    pushed_tree c.push.result c.add_tree-2.new.net c.push.new.self c.in-Some.choice.now c.in-Some.rest.now c.args.pins.now c.args.column.now c.split_at.result.0.now c.split_at.result.1.now c.in_ok-low.low c.in_ok-high.high
    c.push.ensures.ok c.push.ensures.place c.in-Some.ensures.cases.0
    (sym (take-append-drop (length c.args.column.now / 2) c.args.column.now) ∙ sym (ap₂ ◌++◌ c.split_at.ensures.front c.split_at.ensures.back))
    (omega (arith, c.split_at.ensures.front_len, c.split_at.ensures.back_len, half, c.requires.column, both))
    (grow_tree c.add_tree.new.net c.add_tree-2.new.net (2 ^ length c.in-Some.rest.now - 1) c.in-Some.rest.now c.split_at.result.0.now c.in_ok-low.low c.in_ok-high.ensures.grows c.in_ok-low.ensures.tree)
    c.in_ok-high.ensures.tree

pub returns-clause-only : goal.returns-clause-only
returns-clause-only t c =
    let mid = c.add_tree.new.net in
    let last = c.add_tree-2.new.net in
    let n = 2 ^ length c.in-Some.rest.now - 1 in
    let down = grow_tree mid last n c.in-Some.rest.now c.split_at.result.0.now c.in_ok-low.low c.in_ok-high.ensures.grows c.in_ok-low.ensures.tree in
    pushed_only c.push.result last c.push.new.self c.in-Some.choice.now c.in-Some.rest.now c.args.pins.now c.split_at.result.0.now c.split_at.result.1.now c.in_ok-low.low c.in_ok-high.high
    (length c.args.net.now.cells) (length mid.cells) c.push.ensures.ok c.push.ensures.place c.in-Some.ensures.cases.0 down c.in_ok-high.ensures.tree
    (λ place past lt. subst (λ l. IsInTree l c.in-Some.rest.now c.in_ok-low.low place) (sym c.in_ok-high.ensures.grows.cells)
    (in_tree_stays mid.cells c.in_ok-high.ensures.grows.more c.in-Some.rest.now c.split_at.result.0.now c.in_ok-low.low place c.in_ok-low.ensures.tree (c.in_ok-low.ensures.only place past lt)))
    c.in_ok-high.ensures.only
