use Rattle.std.proofs.Common.{◌≡◌, ◌++◌, Some, slice_get, refl, sym, ap, subst, ◌∙◌}
use Rattle.bb_cnf.specs.declared.partial_resolvent.PartialResolvent.{PartialResolvent}
use Rattle.bb_cnf.specs.Clauses.{Literals, lists_of}
use Rattle.bb_cnf.specs.Inside.PartialResolvent.{held, AreListed}
use Rattle.bb_cdcl.specs.declared.trail.Trail.{Trail}
use Rattle.bb_cdcl.specs.Inside.Analysis.{IsBackjump, IsResolved}
use Rattle.bb_cdcl.specs.Inside.States.{all_clauses}
use Rattle.bb_cdcl.proofs.Unitary.{backjump_kept, made_longer, made_with_more}
use Rattle.bb_cdcl.proofs.units.resolve_root.Goals as goal

pub returns : goal.returns
returns c =
    let given = lists_of c.args.given.now in
    let old = c.args.s.now in
    let mid = c.make_units.new.s in
    let before = c.requires in
    let grows = c.in_ok-make_units.ensures in
    let clauses : c.new-clauses-2.result ≡ all_clauses given mid = c.new-clauses-2.ensures ∙ ap (λ more. given ++ lists_of more) c.deref-7.ensures.value in
    let occurs : slice_get old.trail.entries.items c.args.backjump.place ≡ Some c.entry_at-kept.result =
    ap (λ es. slice_get es c.args.backjump.place) (sym (c.deref-6.ensures.value ∙ ap (λ (t : Trail). t.entries.items) grows.trail)) ∙ c.entry_at-kept.ensures in
    record {
      derived = record { derives = grows.derived.derives; reasons = grows.derived.reasons };
      trail = grows.trail;
      made = made_longer (all_clauses given mid) c.args.step.now (record { first = c.args.step.now.first; rest = c.resolve_units.new.pairs }) mid.resolvent c.resolve_units.new.resolvent refl
          (subst AreListed (sym grows.resolvent) before.listed)
          (subst (λ all. (first : Literals) → IsResolved all first c.args.step.now.rest.items mid.resolvent → IsResolved all first c.resolve_units.new.pairs.items c.resolve_units.new.resolvent) clauses
          c.in_ok-resolve_units.ensures.resolved)
          (made_with_more c.chains.ensures (all_clauses given old) (all_clauses given mid) grows.more c.args.step.now (held mid.resolvent) grows.clauses
          (before.made ∙ ap (λ (r : PartialResolvent). Some (held r)) (sym grows.resolvent)));
      listed = c.in_ok-resolve_units.ensures.listed;
      some = backjump_kept old.trail.entries.items c.args.backjump.place c.args.backjump.back c.entry_at-kept.result.lit.var c.entry_at-kept.result (held mid.resolvent) (held c.resolve_units.new.resolvent) occurs
          refl c.in_ok-resolve_units.ensures.covered
          (subst (λ (r : PartialResolvent). IsBackjump old.trail.entries.items (held r) c.args.backjump.place c.args.backjump.back) (sym grows.resolvent) before.some);
      none = tt;
    }
