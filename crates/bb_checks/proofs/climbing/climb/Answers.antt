use Rattle.std.proofs.Common.{[], ◌++◌, sym, ◌∙◌, subst}
use Rattle.std.proofs.lemmas.List.{append-nil, drop_all, get_or_default}
use Rattle.bb_options.specs.declared.rung.Rung.TheVariants.{Ternary}
use Rattle.bb_checks.specs.Rungs.{Climbs, Top}
use Rattle.bb_checks.proofs.Findings.{climb_ends, climb_goes}
use Rattle.bb_checks.proofs.climbing.climb.Goals as goal

pub loop-rung-preserved : goal.loop-rung-preserved
loop-rung-preserved c =
    let p = c.args.pair.now in
    let o = c.args.options.now in
    let rungs = c.deref-rung-items.result.now in
    let k = c.loop-rung.rung-index in (
      c.in_ok-check_result.ensures.known,
      λ more rest.
          subst (λ lines. Climbs p o rungs (lines ++ more)) (sym c.in_ok-push.ensures.items)
          (climb_goes p o rungs k _ c.loop-rung-test.true (get_or_default rungs k Ternary _ c.loop-rung-test.true) c.loop-rung.lines.items c.in_ok-check_result.check_result c.loop-rung.invariant.1 c.in_ok-check_result.ensures.check_result (sym c.if-last.ensures.ends) more rest),
    )

pub returns-then-last : goal.returns-then-last
returns-then-last c =
    let p = c.args.pair.now in
    let o = c.args.options.now in
    let rungs = c.deref-rung-items.result.now in
    let k = c.loop-rung.rung-index in
    record {
      lines = subst (λ rs. Climbs p o rs c.push.new.self.items) (c.deref-rung-items.ensures.value ∙ c.in_ok-rungs.ensures.requested)
          (subst (Climbs p o rungs) (sym c.in_ok-push.ensures.items) (climb_ends p o rungs k _ c.loop-rung-test.true (get_or_default rungs k Ternary _ c.loop-rung-test.true) c.loop-rung.lines.items c.in_ok-check_result.check_result c.loop-rung.invariant.1 c.in_ok-check_result.ensures.check_result (sym c.if-last.ensures.ends)));
    }

pub returns : goal.returns
returns c =
    let p = c.args.pair.now in
    let o = c.args.options.now in
    let rungs = c.deref-rung-items.result.now in
    record {
      lines = subst (λ rs. Climbs p o rs c.loop-rung.lines.items) (c.deref-rung-items.ensures.value ∙ c.in_ok-rungs.ensures.requested)
          (subst (Climbs p o rungs) (append-nil c.loop-rung.lines.items) (c.loop-rung.invariant.1 [] (subst (λ rs. Climbs p o rs []) (sym (drop_all c.loop-rung.rung-index rungs c.loop-rung-test.false)) Top)));
    }
