use Rattle.std.proofs.Common.{◌++◌, ap, sym, refl, ◌∙◌, subst, map, take, append-nil}
use Rattle.std.specs.List.{flat_map}
use Rattle.bb_ast.specs.Inside.Views.{module_view, item_view}
use Rattle.bb_names.specs.Declarations.{declared_by, declared_by_head}
use Rattle.bb_names.specs.Faults.{statement_faults, module_faults}
use Rattle.bb_names.specs.Inside.Firsts.{item_faults}
use Rattle.bb_names.specs.Sites.{header_sites}
use Rattle.bb_names.specs.Inside.Summaries.{Describes}
use Rattle.bb_bits.specs.Earlier.{each_after}
use Rattle.bb_names.proofs.Answering.{err_answers, prefix_answers, item_answers, each-none}
use Rattle.bb_names.proofs.DeclaredLists.{turn-flat}
use Rattle.bb_names.proofs.Noting.{seen-all}
use Rattle.bb_names.proofs.faults.statements.check_statements.Goals as goal

pub returns-in_err-check_header : goal.returns-in_err-check_header
returns-in_err-check_header c =
    let text = map module_view c.args.source.now in
    let m = module_view c.args.of.now in
    let fault = c.in_err-check_header.field-0.0 in
    record {
      answers = err_answers c.from_residual.result fault (module_faults text (take c.args.place text) m) c.from_residual.ensures.1
          (prefix_answers (statement_faults text m m.line (header_sites (take c.args.place text) m)) (each_after (item_faults text m) m.items) fault c.in_err-check_header.ensures.answers);
    }

pub loop-item-init : goal.loop-item-init
loop-item-init c = record {
  declared = subst (Describes c.check_header.new.earlier.entries) (sym (append-nil (flat_map declared_by_head (module_view c.args.of.now).heads))) c.in_ok-check_header.ensures.declared;
  none = refl;
}

pub returns-in_err-check_item : goal.returns-in_err-check_item
returns-in_err-check_item c =
    let text = map module_view c.args.source.now in
    let m = module_view c.args.of.now in
    let items = c.args.of.now.items.items in
    let i = c.loop-item.item-index in
    let same = c.deref-item-items.ensures.value ∙ ap (λ z. z.items.items) c.module.ensures in
    let earlier = flat_map declared_by_head m.heads ++ flat_map (λ x. declared_by x.body) (map item_view (take i items)) in
    let fault = c.in_err-check_item.field-0.0 in
    record {
      answers = err_answers c.from_residual-in_err-check_item.result fault (module_faults text (take c.args.place text) m) c.from_residual-in_err-check_item.ensures.1
          (item_answers (item_faults text m) item_view items i c.item-item.result (statement_faults text m m.line (header_sites (take c.args.place text) m)) fault (rw same at c.loop-item-test.true) (rw same at c.item-item.is)
          c.in_ok-check_header.ensures.answers c.loop-item.invariant.none (c.in_err-check_item.ensures.answers earlier c.loop-item.invariant.declared));
    }

pub loop-item-preserved : goal.loop-item-preserved
loop-item-preserved c =
    let text = map module_view c.args.source.now in
    let m = module_view c.args.of.now in
    let items = c.args.of.now.items.items in
    let i = c.loop-item.item-index in
    let same = c.deref-item-items.ensures.value ∙ ap (λ z. z.items.items) c.module.ensures in
    let heads = flat_map declared_by_head m.heads in
    let earlier = heads ++ flat_map (λ x. declared_by x.body) (map item_view (take i items)) in
    record {
      declared = turn-flat c.check_item.new.earlier.entries heads (λ x. declared_by x.body) item_view items i c.item-item.result (rw same at c.loop-item-test.true) (rw same at c.item-item.is) (c.in_ok-check_item.ensures.declared earlier c.loop-item.invariant.declared);
      none = each-none (item_faults text m) item_view items i c.item-item.result (rw same at c.loop-item-test.true) (rw same at c.item-item.is) c.loop-item.invariant.none (c.in_ok-check_item.ensures.answers earlier c.loop-item.invariant.declared);
    }

pub returns : goal.returns
returns c =
    let text = map module_view c.args.source.now in
    let m = module_view c.args.of.now in
    let same = c.deref-item-items.ensures.value ∙ ap (λ z. z.items.items) c.module.ensures in
    record {
      answers = ap (λ z. z ++ each_after (item_faults text m) (map item_view c.args.of.now.items.items)) c.in_ok-check_header.ensures.answers
          ∙ ap (each_after (item_faults text m)) (sym (seen-all item_view c.args.of.now.items.items c.loop-item.item-index (rw same at c.loop-item-test.false))) ∙ c.loop-item.invariant.none;
    }
