use Rattle.std.proofs.Common.{Bool, List, Vec, Global, filter, length, [], map, ap, ◌∙◌, subst, arith}
use Rattle.std.specs.Prelude.{replicate, sum_by}
use Rattle.std.specs.List.{flat_map}
use Rattle.std.proofs.lemmas.List.{length-map}
use Rattle.bb_ast.specs.Syntax.{PlainItem}
use Rattle.bb_ast.specs.Inside.Views.{item_view}
use Rattle.bb_names.specs.Inside.Checked.{module_facts, syntax}
use Rattle.bb_expr.specs.Inside.Shares.{capped}
use Rattle.bb_hier.specs.Inside.Weights.{any_scope, stored_by, AreMarks}
use Rattle.bb_hier.proofs.MarkLemmas.{nothing_marked, all_counted}
use Rattle.bb_lemmas.proofs.Turns.{written_back}
use Rattle.bb_hier.proofs.register_bits.registers_in.Goals as goal

pub mark_items-requires-clause-marks : goal.mark_items-requires-clause-marks
mark_items-requires-clause-marks c = (
  [],
  nothing_marked c.args.scope.now.nets.items (map (λ (row : Vec Bool Global). row.items) c.deref_mut.result.now)
      (ap (map (λ (row : Vec Bool Global). row.items)) c.deref_mut.ensures.value ∙ c.in_ok-marks.ensures.none ∙ ap (λ n. replicate n []) (c.len.ensures ∙ c.args.scope.now.nets.ok.0)),
)

pub returns : goal.returns
returns c =
    let none = nothing_marked c.args.scope.now.nets.items (map (λ (row : Vec Bool Global). row.items) c.deref_mut.result.now)
    (ap (map (λ (row : Vec Bool Global). row.items)) c.deref_mut.ensures.value ∙ c.in_ok-marks.ensures.none ∙ ap (λ n. replicate n []) (c.len.ensures ∙ c.args.scope.now.nets.ok.0)) in
    let are = c.in_ok-mark_items.ensures.marks [] none in
    record {
      count = c.count_all.ensures.count ∙ ap (λ (rows : List (Vec Bool Global)). capped (sum_by (λ (row : List Bool). length (filter (λ mark. mark) row)) (map (λ (row : Vec Bool Global). row.items) rows))) (c.deref-2.ensures.value ∙ written_back c.in_ok-marks.marks.len c.mark_items.new.marks _
          (omega (arith, c.in_ok-marks.marks.ok.0, ap length c.deref_mut.ensures.value, none.long, are.long, length-map c.deref_mut.result.now (λ (row : Vec Bool Global). row.items), length-map c.mark_items.new.marks (λ (row : Vec Bool Global). row.items))))
          ∙ ap capped (all_counted (module_facts c.args.scope.now) c.requires.nets (map (λ (row : Vec Bool Global). row.items) c.mark_items.new.marks)
          (subst (λ items. AreMarks c.args.scope.now.nets.items (map (λ (row : Vec Bool Global). row.items) c.mark_items.new.marks) (flat_map (λ (item : PlainItem). stored_by (any_scope (syntax (module_facts c.args.scope.now))) item.body) (map item_view items)))
          c.deref.ensures.value are));
    }
