use Rattle.std.proofs.Common.{◌≡◌, ◌-◌, subst, sym, length, ap, ◌∙◌, ◌++◌, slice_get}
use Rattle.bb_cnf.specs.Clauses.{literals_of, lists_of}
use Rattle.bb_cdcl.specs.declared.trail.Trail.{Trail}
use Rattle.bb_cdcl.specs.Inside.Analysis.{IsBackjump}
use Rattle.bb_cdcl.specs.Inside.States.{all_clauses, Learns}
use Rattle.bb_cdcl.proofs.Derived.{learned_ready, derived_jumped, advances_learned}
use Rattle.bb_cdcl.proofs.iteration.resolve_conflict.Goals as goal

pub go_back-requires-clause-ready : goal.go_back-requires-clause-ready
go_back-requires-clause-ready c = learned_ready _ _ _ _ c.requires.ready c.in_ok-learn.ensures

pub go_back-requires-clause-backjump : goal.go_back-requires-clause-backjump
go_back-requires-clause-backjump c =
    let learns = subst (Learns (lists_of c.args.given.now) c.args.s.now c.learn.new.s) c.in-Some.is c.in_ok-learn.ensures in
    (literals_of learns.clause, subst (λ (t : Trail). IsBackjump t.entries.items (literals_of learns.clause) c.in-Some.backjump.place c.in-Some.backjump.back) (sym learns.trail) learns.some)

pub returns-in-None : goal.returns-in-None
returns-in-None c = (subst (Learns (lists_of c.args.given.now) c.args.s.now c.learn.new.s) c.in-None.is c.in_ok-learn.ensures).none

pub returns-in_ok-go_back-in-Some : goal.returns-in_ok-go_back-in-Some
returns-in_ok-go_back-in-Some c =
    let learns = subst (Learns (lists_of c.args.given.now) c.args.s.now c.learn.new.s) c.in-Some.is c.in_ok-learn.ensures in
    let backjump = subst (λ (t : Trail). IsBackjump t.entries.items (literals_of learns.clause) c.in-Some.backjump.place c.in-Some.backjump.back) (sym learns.trail) learns.some in
    let count : c.saturating_sub-last.result ≡ length (all_clauses (lists_of c.args.given.now) c.learn.new.s) - 1 =
    c.saturating_sub-last.ensures ∙ ap (λ n. n - 1) (c.len.ensures ∙ ap length (c.new.ensures ∙ ap (λ more. lists_of c.args.given.now ++ lists_of more) c.deref.ensures.value)) in (
      derived_jumped _ _ _ _ _ _ learns.clause learns.derived c.in_ok-go_back-in-Some.ensures.learned c.in_ok-go_back-in-Some.ensures.steps
          (ap (slice_get (all_clauses (lists_of c.args.given.now) c.learn.new.s)) count ∙ learns.last) backjump
          (c.in_ok-go_back-in-Some.ensures.entries backjump.covered.entry backjump.covered.at_place),
      advances_learned _ _ _ _ _ c.in_ok-learn.ensures c.in_ok-go_back-in-Some.ensures.advances,
    )
