use Rattle.std.proofs.Common.{◌≡◌, ◌++◌, false, Option, IfSome, IfNone, map, refl, sym, ap, subst, ◌∙◌}
use Rattle.bb_cnf.specs.declared.clauses.Lit.{Lit}
use Rattle.bb_cnf.specs.Clauses.{literals_of, lists_of}
use Rattle.bb_cnf.specs.Chains.{made_by}
use Rattle.bb_cnf.specs.Inside.PartialResolvent.{held}
use Rattle.bb_cdcl.specs.declared.analysis.Backjump.{Backjump}
use Rattle.bb_cdcl.specs.Inside.Analysis.{IsBackjump}
use Rattle.bb_cdcl.specs.Inside.States.{all_clauses}
use Rattle.bb_cdcl.proofs.learning.conflict_step.Goals as goal

pub resolve_root-requires : goal.resolve_root-requires
resolve_root-requires c =
    let clauses : c.new-clauses.result ≡ all_clauses (lists_of c.args.given.now) c.args.s.now = c.new-clauses.ensures ∙ ap (λ more. lists_of c.args.given.now ++ lists_of more) c.deref.ensures.value in
    record {
      derived = record { derives = c.requires.derived.derives; reasons = c.requires.derived.reasons };
      trail = refl;
      made = ap (λ all. made_by (map literals_of all) c.in_ok-backjump.step) (sym clauses) ∙ c.in_ok-backjump.ensures.made;
      listed = c.in_ok-backjump.ensures.listed;
      some = subst (λ (o : Option Backjump). IfSome o (λ j. IsBackjump c.args.s.now.trail.entries.items (held c.analyzed.new.resolvent) j.place j.back)) c.in-Some.is c.in_ok-backjump.ensures.some;
      none = tt;
    }

pub returns-in-None : goal.returns-in-None
returns-in-None c =
    let clauses : c.new-clauses.result ≡ all_clauses (lists_of c.args.given.now) c.args.s.now = c.new-clauses.ensures ∙ ap (λ more. lists_of c.args.given.now ++ lists_of more) c.deref.ensures.value in
    record {
      derived = record { derives = c.requires.derived.derives; reasons = c.requires.derived.reasons };
      trail = refl;
      made = ap (λ all. made_by (map literals_of all) c.in_ok-backjump.step) (sym clauses) ∙ c.in_ok-backjump.ensures.made;
      listed = c.in_ok-backjump.ensures.listed;
      some = tt;
      none = subst (λ (o : Option Backjump). IfNone o ((l : Lit) → held c.analyzed.new.resolvent l ≡ false)) c.in-None.is c.in_ok-backjump.ensures.none;
    }

pub returns-in_ok-resolve_root-in-Some : goal.returns-in_ok-resolve_root-in-Some
returns-in_ok-resolve_root-in-Some c =
    let leads = c.in_ok-resolve_root-in-Some.ensures in
    record {
      derived = leads.derived;
      trail = leads.trail;
      made = leads.made;
      listed = leads.listed;
      some = leads.some;
      none = leads.none;
    }
