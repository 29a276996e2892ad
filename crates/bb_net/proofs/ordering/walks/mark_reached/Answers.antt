use Rattle.std.proofs.Common.{◌≡◌, ℕ, false, length, replicate, ap, ◌∙◌, arith, rules}
use Rattle.std.proofs.lemmas.List.{length-replicate, length_push}
use Rattle.bb_net.proofs.WalkLemmas.{IsSearched-begun, IsSearched-popped, IsSearched-top, AreDone-none}
use Rattle.bb_net.proofs.ordering.walks.mark_reached.Goals as goal

pub loop-place-init : goal.loop-place-init
loop-place-init c = record {
  search = IsSearched-begun c.args.loose.now c.args.start c.args.seen.now c.new-stack.result.items c.mark_operands.new.seen c.mark_operands.new.stack.items
      c.requires.list c.requires.there c.requires.none c.new-stack.ensures.items c.in_ok-mark_operands.ensures.ok;
  done = c.in_ok-mark_operands.ensures.done;
}

pub mark_operands-requires-in-Some-clause-there : goal.mark_operands-requires-in-Some-clause-there
mark_operands-requires-in-Some-clause-there c =
    IsSearched-top c.args.loose.now c.args.start c.in-Some.place c.loop-place.seen c.loop-place.stack.items c.pop.new.self.items c.loop-place.invariant.search c.in-Some.ensures.items

pub loop-place-preserved : goal.loop-place-preserved
loop-place-preserved c = record {
  search = IsSearched-popped c.args.loose.now c.args.start c.in-Some.place c.loop-place.seen c.loop-place.stack.items c.pop.new.self.items c.mark_operands-in-Some.new.seen c.mark_operands-in-Some.new.stack.items
      c.requires.list c.loop-place.invariant.search c.in-Some.ensures.items c.in_ok-mark_operands-2.ensures.ok;
  done = c.in_ok-mark_operands-2.ensures.done;
}

pub mark_operands-requires : goal.mark_operands-requires
mark_operands-requires c =
    let l = c.args.loose.now in
    let none : c.in_ok-done.done.items ≡ replicate c.box_count.result false = search rules in
    record {
      list = c.requires.list;
      there = c.requires.there;
      whole = ap length c.requires.none ∙ length-replicate (length l.cells) false;
      done = AreDone-none l c.args.seen.now c.in_ok-done.done.items (none ∙ ap (λ (n : ℕ). replicate n false) c.box_count.ensures.count);
    }

pub mark_operands-requires-in-Some-clause-list : goal.mark_operands-requires-in-Some-clause-list
mark_operands-requires-in-Some-clause-list c = c.requires.list

pub mark_operands-requires-in-Some-clause-whole : goal.mark_operands-requires-in-Some-clause-whole
mark_operands-requires-in-Some-clause-whole c = c.loop-place.invariant.search.whole

pub mark_operands-requires-in-Some-clause-done : goal.mark_operands-requires-in-Some-clause-done
mark_operands-requires-in-Some-clause-done c = c.loop-place.invariant.done

pub loop-place-smaller : goal.loop-place-smaller
loop-place-smaller c = omega (arith, c.in_ok-mark_operands-2.ensures.ok.work, ap length c.in-Some.ensures.items, length_push c.pop.new.self.items c.in-Some.place)
