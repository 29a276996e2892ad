use Rattle.std.proofs.Common.{◌≡◌, ◌++◌, [], ◌∷◌, List, map, sym, ap, ◌∙◌, subst}
use Rattle.std.specs.Prelude.{All}
use Rattle.std.specs.List.{AllZip, flat_map}
use Rattle.std.specs.Result.{OnOk}
use Rattle.bb_ast.specs.Syntax.{Expression, PlainBody, Nets, Supply, Assign, Gates, Calls}
use Rattle.bb_ast.specs.Inside.Views.{always_view, arm_view, body_view, call_view, gate_view, named_view}
use Rattle.bb_names.specs.Inside.Checked.{syntax}
use Rattle.bb_expr.specs.Inside.Occurrences.{OccursAt, item_expressions}
use Rattle.bb_design.specs.Constructs.{Assignment, Register, initial_construct, gate_construct, body_constructs}
use Rattle.bb_design.specs.Hierarchy.{instances_in}
use Rattle.bb_blast.specs.Inside.BitBlasting.{AreCallsAt, IsMakeable, IsPartAt}
use Rattle.std.proofs.lemmas.List.Elements.{All-contains}
use Rattle.bb_lemmas.proofs.Members.{all_from, into_flat, contains_here}
use Rattle.bb_lemmas.proofs.Turns.{all_each, all_mapped, zip_added}
use Rattle.bb_blast.proofs.module_parts.add_body.Goals as goal

-- the left sides among both sides
lefts_occur : (P : Expression → Type 0) (all : List (Expression × Expression)) → All P (flat_map (λ x. x.0 ∷ x.1 ∷ []) all) → All (λ x. P x.0) all
lefts_occur P all each = all_from (λ x. P x.0) all (λ x has. All-contains P (flat_map (λ x. x.0 ∷ x.1 ∷ []) all) x.0 each (into_flat (λ x. x.0 ∷ x.1 ∷ []) all x x.0 has (contains_here x.0 (x.1 ∷ []))))

pub add_all_declared-requires-clause-makeable : goal.add_all_declared-requires-clause-makeable
add_all_declared-requires-clause-makeable c =
    let view : body_view c.args.body.now ≡ Nets c.in-Nets.field-0 (map named_view c.deref.result.now) = ap body_view c.in-Nets.is ∙ ap (λ l. Nets c.in-Nets.field-0 (map named_view l)) (sym c.deref.ensures.value) in
    all_each (IsMakeable c.args.context.checked.now c.args.context.module) initial_construct (map named_view c.deref.result.now) (subst (λ b. All (IsMakeable c.args.context.checked.now c.args.context.module) (body_constructs (map syntax c.args.context.checked.now) b)) view c.requires.makeable)

pub add_assignments-requires-clause-occurs : goal.add_assignments-requires-clause-occurs
add_assignments-requires-clause-occurs c =
    let view : body_view c.args.body.now ≡ Assign (map arm_view c.deref-in-Assign.result.now) = ap body_view c.in-Assign.is ∙ ap (λ l. Assign (map arm_view l)) (sym c.deref-in-Assign.ensures.value) in
    lefts_occur (OccursAt c.args.context.checked.now c.args.context.module) (map arm_view c.deref-in-Assign.result.now) (subst (λ b. All (OccursAt c.args.context.checked.now c.args.context.module) (item_expressions b)) view c.requires.occurs)

pub add_assignments-requires-clause-makeable : goal.add_assignments-requires-clause-makeable
add_assignments-requires-clause-makeable c =
    let view : body_view c.args.body.now ≡ Assign (map arm_view c.deref-in-Assign.result.now) = ap body_view c.in-Assign.is ∙ ap (λ l. Assign (map arm_view l)) (sym c.deref-in-Assign.ensures.value) in
    all_mapped (IsMakeable c.args.context.checked.now c.args.context.module) (λ x. Assignment x.0 x.1) (map arm_view c.deref-in-Assign.result.now) (subst (λ b. All (IsMakeable c.args.context.checked.now c.args.context.module) (body_constructs (map syntax c.args.context.checked.now) b)) view c.requires.makeable)

pub add_gates-requires-clause-makeable : goal.add_gates-requires-clause-makeable
add_gates-requires-clause-makeable c =
    let view : body_view c.args.body.now ≡ Gates c.in-Gates.gate (map gate_view c.deref-in-Gates.result.now) = ap body_view c.in-Gates.is ∙ ap (λ l. Gates c.in-Gates.gate (map gate_view l)) (sym c.deref-in-Gates.ensures.value) in
    all_mapped (IsMakeable c.args.context.checked.now c.args.context.module) (λ x. gate_construct c.in-Gates.gate x.1) (map gate_view c.deref-in-Gates.result.now) (subst (λ b. All (IsMakeable c.args.context.checked.now c.args.context.module) (body_constructs (map syntax c.args.context.checked.now) b)) view c.requires.makeable)

pub register-requires-clause-makeable : goal.register-requires-clause-makeable
register-requires-clause-makeable c =
    let r = always_view c.in-Always.always in
    All-contains (IsMakeable c.args.context.checked.now c.args.context.module) (Register r ∷ []) (Register r) (subst (λ b. All (IsMakeable c.args.context.checked.now c.args.context.module) (body_constructs (map syntax c.args.context.checked.now) b)) (ap body_view c.in-Always.is) c.requires.makeable) (contains_here (Register r) [])

pub returns-in-Nets : goal.returns-in-Nets
returns-in-Nets c =
    let view : body_view c.args.body.now ≡ Nets c.in-Nets.field-0 (map named_view c.deref.result.now) = ap body_view c.in-Nets.is ∙ ap (λ l. Nets c.in-Nets.field-0 (map named_view l)) (sym c.deref.ensures.value) in
    record {
      parts = λ before all. subst (λ (b : PlainBody). OnOk c.add_all_declared.result (AllZip (IsPartAt c.args.context.checked.now c.args.context.module) c.add_all_declared.new.parts.items (before ++ body_constructs (map syntax c.args.context.checked.now) b))) (sym view) (c.add_all_declared.ensures.parts before all);
    }

pub returns-in-Supply : goal.returns-in-Supply
returns-in-Supply c =
    let view : body_view c.args.body.now ≡ Supply c.in-Supply.high c.in-Supply.field-1 c.deref-in-Supply.result.now = ap body_view c.in-Supply.is ∙ ap (λ l. Supply c.in-Supply.high c.in-Supply.field-1 l) (sym c.deref-in-Supply.ensures.value) in
    record {
      parts = λ before all. subst (λ (b : PlainBody). OnOk c.add_supplies.result (AllZip (IsPartAt c.args.context.checked.now c.args.context.module) c.add_supplies.new.parts.items (before ++ body_constructs (map syntax c.args.context.checked.now) b))) (sym view) (c.add_supplies.ensures.parts before all);
    }

pub returns-in-Assign : goal.returns-in-Assign
returns-in-Assign c =
    let view : body_view c.args.body.now ≡ Assign (map arm_view c.deref-in-Assign.result.now) = ap body_view c.in-Assign.is ∙ ap (λ l. Assign (map arm_view l)) (sym c.deref-in-Assign.ensures.value) in
    record {
      parts = λ before all. subst (λ (b : PlainBody). OnOk c.add_assignments.result (AllZip (IsPartAt c.args.context.checked.now c.args.context.module) c.add_assignments.new.parts.items (before ++ body_constructs (map syntax c.args.context.checked.now) b))) (sym view) (c.add_assignments.ensures.parts before all);
    }

pub returns-in-Gates : goal.returns-in-Gates
returns-in-Gates c =
    let view : body_view c.args.body.now ≡ Gates c.in-Gates.gate (map gate_view c.deref-in-Gates.result.now) = ap body_view c.in-Gates.is ∙ ap (λ l. Gates c.in-Gates.gate (map gate_view l)) (sym c.deref-in-Gates.ensures.value) in
    record {
      parts = λ before all. subst (λ (b : PlainBody). OnOk c.add_gates.result (AllZip (IsPartAt c.args.context.checked.now c.args.context.module) c.add_gates.new.parts.items (before ++ body_constructs (map syntax c.args.context.checked.now) b))) (sym view) (c.add_gates.ensures.parts before all);
    }

pub returns-in-Calls : goal.returns-in-Calls
returns-in-Calls c =
    let view : body_view c.args.body.now ≡ Calls c.in-Calls.field-0 (map call_view c.deref-in-Calls.result.now) = ap body_view c.in-Calls.is ∙ ap (λ l. Calls c.in-Calls.field-0 (map call_view l)) (sym c.deref-in-Calls.ensures.value) in
    record {
      parts = λ before all. subst (λ (b : PlainBody). OnOk c.add_calls.result (AllZip (IsPartAt c.args.context.checked.now c.args.context.module) c.add_calls.new.parts.items (before ++ body_constructs (map syntax c.args.context.checked.now) b))) (sym view) (c.add_calls.ensures.parts c.in-Calls.field-0 (subst (λ b. AreCallsAt c.args.context.checked.now c.args.context.module c.args.targets.modules.now c.args.first (instances_in b)) view c.requires.calls) before all);
    }

pub returns-in_ok-push-in-Always : goal.returns-in_ok-push-in-Always
returns-in_ok-push-in-Always c =
    let r = IsPartAt c.args.context.checked.now c.args.context.module in
    record {
      parts = λ before all. subst (λ (b : PlainBody). AllZip r c.push.new.self.items (before ++ body_constructs (map syntax c.args.context.checked.now) b)) (sym (ap body_view c.in-Always.is))
          (zip_added r c.args.parts.now.items (c.in_ok-register-in-Always.field-0 ∷ []) c.push.new.self.items before (Register (always_view c.in-Always.always) ∷ []) all (c.in_ok-register-in-Always.ensures.part, tt) c.in_ok-push-in-Always.ensures.items);
    }
