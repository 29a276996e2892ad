use Rattle.std.proofs.Common.{◌≡◌, map, ap, ◌∙◌, refl, subst, All, length}
use Rattle.std.specs.Prelude.{vec_items}
use Rattle.bb_net.specs.Netlists.{Netlist}
use Rattle.bb_tern.specs.Patterns.{patterns}
use Rattle.bb_checks.proofs.Findings.{each_long, hits, some_holds}
use Rattle.bb_checks.proofs.climbing.ternary.Goals as goal

pub simulate-requires : goal.simulate-requires
simulate-requires c k d fits =
    let all = patterns c.inputs.result c.args.options.now.patterns c.args.options.now.seed in
    each_long c.args.pair.now.imp.inputs c.deref.result.now all (ap (λ all. map vec_items all) c.deref.ensures.value ∙ c.in_ok-tried.ensures.ok)
    (subst (λ n. All (λ x. length x ≡ n) all) (c.inputs.ensures.inputs ∙ ap (λ (net : Netlist). net.inputs) c.imp.ensures.imp) (c.patterns_are_vectors.ensures c.inputs.result c.args.options.now.patterns c.args.options.now.seed)) k d fits

pub returns-in-Some : goal.returns-in-Some
returns-in-Some c = record {
  check_result = hits c.args.pair.now c.args.options.now (map vec_items c.deref.result.now)
      (ap (λ all. map vec_items all) c.deref.ensures.value ∙ c.in_ok-tried.ensures.ok ∙ ap (λ n. patterns n c.args.options.now.patterns c.args.options.now.seed) (c.inputs.ensures.inputs ∙ ap (λ (net : Netlist). net.inputs) c.imp.ensures.imp))
      _ c.in-Some.hit.output refl (some_holds _ _ c.in_ok-hit.ensures.hit c.in-Some.hit c.in-Some.is);
}
