use Rattle.std.proofs.Common.{◌∙◌, ◌||◌, ◌<◌, sym, ap, subst, map, arith}
use Rattle.std.specs.List.{list_any}
use Rattle.std.specs.Vec.{vec_len}
use Rattle.std.proofs.lemmas.List.{length-map}
use Rattle.bb_bits.specs.Names.{same_name}
use Rattle.bb_ast.specs.Inside.Views.{body_view, call_view}
use Rattle.bb_design.specs.Hierarchy.{Instance, instances_in}
use Rattle.bb_hier.proofs.TopLemmas.{inserted-target, not-none}
use Rattle.bb_hier.proofs.top.add_target.Goals as goal

pub returns-in_ok-insert-in-Calls : goal.returns-in_ok-insert-in-Calls
returns-in_ok-insert-in-Calls c = record {
  ok = λ n.
      inserted-target n _ _ c.args.targets.now.keys c.insert.new.self.keys (map call_view c.in-Calls.calls.items) c.in_ok-insert-in-Calls.ensures.keys c.in_ok-clone-in-Calls.ensures.cases (subst (λ j. 0 < j) (sym (length-map c.in-Calls.calls.items call_view)) (omega (arith, c.in-Calls.calls.ok, not-none c.is_empty.result (vec_len c.in-Calls.calls) c.is_empty.ensures c.if-not-is_empty.true)))
      ∙ ap (λ b. list_any (same_name n) c.args.targets.now.keys || list_any (λ (i : Instance). same_name i.target n) (instances_in (body_view b))) (sym c.in-Calls.is);
}
