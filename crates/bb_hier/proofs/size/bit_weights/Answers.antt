use Rattle.std.proofs.Common.{◌<◌, ◌-◌, ◌+◌, ◌++◌, ◌∷◌, [], map, length, take, sym, ap, ◌∙◌, arith}
use Rattle.std.specs.Prelude.{◌^◌, sum_by}
use Rattle.std.proofs.lemmas.List.{length-map, take_all}
use Rattle.bb_ast.specs.Syntax.{PlainModule}
use Rattle.bb_names.specs.Inside.Checked.{module_facts, syntax}
use Rattle.bb_expr.specs.Inside.Shares.{capped}
use Rattle.bb_hier.specs.Inside.Weights.{bit_count, net_width}
use Rattle.bb_hier.proofs.CellSums.{one_added, maps_more}
use Rattle.bb_hier.proofs.ModulesAt.{nets_at_place}
use Rattle.bb_hier.proofs.size.bit_weights.Goals as goal

pub loop-scope-preserved : goal.loop-scope-preserved
loop-scope-preserved c =
    let modules = c.modules-modules.result.now in
    let lt : c.loop-scope.scope-index < length c.args.checked.now = omega (arith, c.loop-scope-test.true, length-map modules module_facts, ap length c.modules-modules.ensures.modules) in
    let has = nets_at_place c.args.checked.now modules c.modules-modules.ensures.modules c.loop-scope.scope-index c.scope-item.result c.scope-item.is lt c.modules-modules.ensures.checked in
    let m = syntax (module_facts c.scope-item.result) in
    c.in_ok-push.ensures.items ∙ ap (λ l. l ++ c.saturating_add.result ∷ []) c.loop-scope.invariant
    ∙ ap (λ n. map (λ (m : PlainModule). capped (bit_count m + 1)) (map syntax (map module_facts (take c.loop-scope.scope-index modules))) ++ n ∷ [])
    (one_added (2 ^ 64 - 1) (bit_count m) c.net_bits.result c.saturating_add.result (omega arith) (c.net_bits.ensures.bits ∙ ap (λ nets. capped (sum_by net_width nets)) (c.deref.ensures.value ∙ has.nets)) c.saturating_add.ensures)
    ∙ sym (maps_more (λ (m : PlainModule). capped (bit_count m + 1)) syntax module_facts modules c.loop-scope.scope-index c.scope-item.result c.loop-scope-test.true c.scope-item.is)

pub returns : goal.returns
returns c = record {
  weights = c.loop-scope.invariant ∙ ap (λ l. map (λ (m : PlainModule). capped (bit_count m + 1)) (map syntax (map module_facts l))) (take_all c.loop-scope.scope-index c.modules-modules.result.now c.loop-scope-test.false)
      ∙ ap (λ l. map (λ (m : PlainModule). capped (bit_count m + 1)) (map syntax l)) c.modules-modules.ensures.modules;
}
