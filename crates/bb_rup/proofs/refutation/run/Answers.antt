use Rattle.std.proofs.Common.{[], ◌≡◌, ◌++◌, ◌+◌, ◌≤◌, ap, sym, subst, refl, ◌∙◌, length, take, append-nil, arith}
use Rattle.std.proofs.lemmas.List.{length-map, take_all}
use Rattle.bb_cnf.specs.Clauses.{lists_of}
use Rattle.bb_rup.specs.Propagation.{Follows, Stays}
use Rattle.bb_rup.specs.Additions.{EachFollows, IsFirstWithout}
use Rattle.bb_rup.specs.Inside.Trails.{marked_by, IsReached, HaveMarks}
use Rattle.bb_rup.specs.Inside.Steps.{Comes}
use Rattle.bb_rup.proofs.Successes.{each_none}
use Rattle.bb_rup.proofs.Steps.{first_yes, stays_no, ends_yes, each_next, last_yes, last_no, marks_before}
use Rattle.bb_rup.proofs.refutation.run.Goals as goal

pub returns-then-branch : goal.returns-then-branch
returns-then-branch c = first_yes (lists_of c.args.given.now) (lists_of c.args.adds.now) (c.in_ok-begin.ensures.yes c.if-branch.true)

pub loop-number-init : goal.loop-number-init
loop-number-init c = record {
  each = each_none (lists_of c.args.given.now);
  trail = c.in_ok-begin.ensures.trail;
  reached = subst (λ k. IsReached k [] (marked_by c.begin.new.trail)) (sym (append-nil (lists_of c.args.given.now))) c.in_ok-begin.ensures.reached;
  room = refl;
}

pub returns-in-Stays : goal.returns-in-Stays
returns-in-Stays c =
    let given = lists_of c.args.given.now in
    let adds = lists_of c.args.adds.now in
    stays_no given adds c.loop-number.number c.loop-number.invariant.each
    (subst (Comes given adds c.loop-number.number (marked_by c.check_addition.new.trail)) c.in-Stays.is c.in_ok-check_addition.ensures.comes)

pub returns-in-Ends : goal.returns-in-Ends
returns-in-Ends c =
    let given = lists_of c.args.given.now in
    let adds = lists_of c.args.adds.now in
    let reported = subst (Comes given adds c.loop-number.number (marked_by c.check_addition.new.trail)) c.in-Ends.is c.in_ok-check_addition.ensures.comes in
    ends_yes given adds c.loop-number.number c.loop-number.invariant.each reported.0 reported.1

pub loop-number-preserved : goal.loop-number-preserved
loop-number-preserved c =
    let given = lists_of c.args.given.now in
    let adds = lists_of c.args.adds.now in
    let reported = subst (Comes given adds c.loop-number.number (marked_by c.check_addition.new.trail)) c.in-Goes.is c.in_ok-check_addition.ensures.comes in
    record {
      each = each_next given adds c.loop-number.number c.loop-number.invariant.each reported.0;
      trail = c.in_ok-check_addition.ensures.trail;
      reached = reported.1;
      room = c.in_ok-check_addition.ensures.same ∙ c.loop-number.invariant.room;
    }

pub follows-requires-clause-room : goal.follows-requires-clause-room
follows-requires-clause-room c =
    let same : length c.args.trail.now.marks.items ≡ length c.loop-number.trail.marks.items = sym (c.loop-number.invariant.room ∙ c.in_ok-begin.ensures.same) in
    subst (HaveMarks (length c.loop-number.trail.marks.items)) (sym c.clauses_before.ensures)
    (subst (λ n. HaveMarks n (lists_of c.args.given.now ++ take (length c.args.adds.now) (lists_of c.args.adds.now))) same
    (marks_before (length c.args.trail.now.marks.items) (length c.args.adds.now) (lists_of c.args.given.now) (lists_of c.args.adds.now) c.requires.room c.requires.room_after))

pub returns-then-branch-2 : goal.returns-then-branch-2
returns-then-branch-2 c =
    let given = lists_of c.args.given.now in
    let adds = lists_of c.args.adds.now in
    let long : length adds ≡ length c.args.adds.now = length-map c.args.adds.now (λ clause. clause.items) in
    let past : length adds ≤ c.loop-number.number = omega (arith, long, c.loop-number-test.false) in
    let whole : take (length c.args.adds.now) adds ≡ adds = take_all (length c.args.adds.now) adds (omega (arith, long)) in
    last_yes given adds (subst (EachFollows given) (take_all c.loop-number.number adds past) c.loop-number.invariant.each)
    (subst (λ k. Follows k []) (c.clauses_before.ensures ∙ ap (λ k. given ++ k) whole) (c.in_ok-follows.ensures.yes c.if-branch-2.true))

pub returns-else-branch-2 : goal.returns-else-branch-2
returns-else-branch-2 c =
    let given = lists_of c.args.given.now in
    let adds = lists_of c.args.adds.now in
    let long : length adds ≡ length c.args.adds.now = length-map c.args.adds.now (λ clause. clause.items) in
    let past : length adds ≤ c.loop-number.number = omega (arith, long, c.loop-number-test.false) in
    let whole : take (length c.args.adds.now) adds ≡ adds = take_all (length c.args.adds.now) adds (omega (arith, long)) in
    subst (λ n. IsFirstWithout given adds (n + 1)) long
    (last_no given adds (subst (EachFollows given) (take_all c.loop-number.number adds past) c.loop-number.invariant.each)
    (subst (λ k. Stays k []) (c.clauses_before.ensures ∙ ap (λ k. given ++ k) whole) (c.in_ok-follows.ensures.no c.if-branch-2.false)))
