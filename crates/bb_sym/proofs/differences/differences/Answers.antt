use Rattle.std.proofs.Common.{rules, IsErrOf, subst, sym, ap, ◌≡◌, ◌+◌, List, map, length, arith}
use Rattle.std.specs.List.{range_with_len}
use Rattle.bb_bits.specs.Bits.{xor}
use Rattle.bb_bits.specs.Truth.{joined_tables}
use Rattle.bb_uniq.specs.declared.store.Ref.{Ref}
use Rattle.bb_uniq.specs.Inside.Meaning.{truth_of, IsTooMany}
use Rattle.bb_sym.specs.declared.fault.RungFault.TheVariants.{Nodes}
use Rattle.bb_sym.specs.Plain.{differ, table}
use Rattle.bb_sym.specs.Inside.Made.{Makes, AreRefs, ref_at}
use Rattle.bb_sym.proofs.MadeLemmas.{AreRefs-push, Makes-none, keeps_self, keeps_then}
use Rattle.bb_sym.proofs.DifferenceLoop.{AreDifferent, different_refused, different_made, different_tables}
use Rattle.bb_sym.proofs.differences.differences.Goals as goal

pub loop-j-init : goal.loop-j-init
loop-j-init c =
    let none : length c.in_ok-refs.refs.items ≡ 0 = ap length c.in_ok-refs.ensures.items in (
      none,
      λ place l. absurd (omega (arith, none, l)),
      keeps_self c.args.d.now.store,
      λ f g left right. (λ place l. absurd (omega (arith, none, l)), Makes-none c.args.d.now.store),
    )

pub xor-requires-clause-f : goal.xor-requires-clause-f
xor-requires-clause-f c = c.loop-j.invariant.2.refs _ (c.requires.fs c.loop-j.j c.loop-j-test.true)

pub xor-requires-clause-g : goal.xor-requires-clause-g
xor-requires-clause-g c = c.loop-j.invariant.2.refs _ (c.requires.gs c.loop-j.j (omega (arith, c.loop-j-test.true, c.requires.count)))

pub returns-in_err-r-clause-nodes : goal.returns-in_err-r-clause-nodes
returns-in_err-r-clause-nodes c =
    let now = c.loop-j.d.store in
    let reported : IsErrOf c.from_residual-in_err-r.result Nodes → IsTooMany now (joined_tables xor (truth_of now (ref_at c.args.fs.now c.loop-j.j).0) (truth_of now (ref_at c.args.gs.now c.loop-j.j).0)) = search rules in
    λ f g left right full. different_refused c.args.d.now.store now f g c.args.fs.now c.args.gs.now c.loop-j.refs.items c.loop-j.j c.loop-j-test.true c.requires.count c.loop-j.invariant.0 left right (c.loop-j.invariant.3 f g left right) (reported full)

pub loop-j-preserved : goal.loop-j-preserved
loop-j-preserved c =
    let s = c.args.d.now.store in
    let now = c.loop-j.d.store in
    let new = c.xor.new.self.store in
    let r = c.in_ok-r.r in
    let added = c.in_ok-r.ensures.ok in (
      (let count : length c.push.new.self.items ≡ c.loop-j.j + 1 = search rules in count),
      subst (AreRefs new) (sym c.in_ok-push.ensures.items) (AreRefs-push now new c.loop-j.refs.items r added.kept added.ref c.loop-j.invariant.1),
      keeps_then s now new c.loop-j.invariant.2 added.kept,
      λ f g left right. subst (λ (refs : List Ref). AreDifferent s new f g refs (c.loop-j.j + 1)) (sym c.in_ok-push.ensures.items)
          (different_made s now f g c.args.fs.now c.args.gs.now c.loop-j.refs.items c.loop-j.j c.loop-j-test.true c.requires.count c.loop-j.invariant.0 left right (c.loop-j.invariant.3 f g left right) new r added),
    )

pub returns-clause-occur : goal.returns-clause-occur
returns-clause-occur c = λ f g left right. (c.loop-j.invariant.3 f g left right).0

pub returns-clause-makes : goal.returns-clause-makes
returns-clause-makes c = λ f g left right.
    let s = c.args.d.now.store in
    let count : c.loop-j.j ≡ length c.args.fs.now = search rules in
    subst (Makes s c.loop-j.d.store) (different_tables s.vars (length c.args.fs.now) f g)
    (subst (λ i. Makes s c.loop-j.d.store (map (λ j. table s.vars (differ (f j) (g j))) (range_with_len 0 i))) count (c.loop-j.invariant.3 f g left right).1)

pub returns-in_err-r-clause-kept : goal.returns-in_err-r-clause-kept
returns-in_err-r-clause-kept c = keeps_then c.args.d.now.store c.loop-j.d.store c.xor.new.self.store c.loop-j.invariant.2 c.xor.ensures.kept

pub returns-in_err-push-clause-kept : goal.returns-in_err-push-clause-kept
returns-in_err-push-clause-kept c = keeps_then c.args.d.now.store c.loop-j.d.store c.xor.new.self.store c.loop-j.invariant.2 c.xor.ensures.kept
