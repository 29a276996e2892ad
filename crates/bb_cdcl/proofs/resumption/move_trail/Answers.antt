use Rattle.std.proofs.Common.{◌≡◌, ◌-◌, length, map, take, sym, subst, refl, arith, length-append}
use Rattle.std.proofs.lemmas.List.{length-map}
use Rattle.smallvec.specs.SmallVec.{SmallVec}
use Rattle.bb_cnf.specs.declared.clauses.Lit.{Lit}
use Rattle.bb_cnf.specs.Clauses.{lists_of}
use Rattle.bb_cdcl.specs.Inside.Trails.{moved_entry}
use Rattle.bb_cdcl.specs.Inside.States.{all_clauses}
use Rattle.bb_cdcl.proofs.Resumed.{reasons_short, derived_taken_in, ready_taken_in, length_prefix}
use Rattle.bb_cdcl.proofs.resumption.move_trail.Goals as goal

pub move_reasons-requires : goal.move_reasons-requires
move_reasons-requires c =
    let given = lists_of c.args.given.now in
    let count = length-map c.args.given.now (λ (clause : SmallVec Lit). clause.items) in
    let prefix = length_prefix c.args.known given (let k = c.requires.known in omega (arith, k, count)) in
    let more = length-map c.args.s.now.learned.items (λ (clause : SmallVec Lit). clause.items) in
    let all = length-append (take c.args.known given) (lists_of c.args.s.now.learned.items) in
    reasons_short (all_clauses (take c.args.known given) c.args.s.now) c.args.s.now.trail.entries.items c.args.known (length c.args.given.now - c.args.known) 18446744073709551616
    (omega (arith, count, prefix, more, all, c.args.s.now.learned.ok.0, c.args.s.now.learned.small, c.requires.known)) c.requires.derived.reasons

pub returns-clause-derived : goal.returns-clause-derived
returns-clause-derived c =
    let given = lists_of c.args.given.now in
    let count = length-map c.args.given.now (λ (clause : SmallVec Lit). clause.items) in
    derived_taken_in given c.args.known c.args.s.now _ (let k = c.requires.known in omega (arith, k, count)) c.requires.derived refl refl
    (subst (λ n. c.move_reasons.new.trail.entries.items ≡ map (moved_entry c.args.known (n - c.args.known)) c.args.s.now.trail.entries.items) (sym count) c.move_reasons.ensures.entries)

pub returns-clause-ready : goal.returns-clause-ready
returns-clause-ready c = ready_taken_in c.args.s.now _ c.args.known (length c.args.given.now - c.args.known) c.requires.ready c.move_reasons.ensures.entries c.move_reasons.ensures.values refl
