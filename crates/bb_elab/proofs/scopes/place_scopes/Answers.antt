use Rattle.std.proofs.Common.{map, subst, sym, refl, arith}
use Rattle.std.specs.List.{AllZip}
use Rattle.std.proofs.lemmas.List.{length-map}
use Rattle.bb_names.specs.Inside.Checked.{syntax}
use Rattle.bb_design.specs.Refusals.{design_on}
use Rattle.bb_elab.specs.Inside.Placings.{AreSummarized}
use Rattle.bb_hier.specs.Inside.ModuleSummaries.{IsModuleSummary}
use Rattle.bb_lemmas.proofs.Places.{there_at, some_at}
use Rattle.bb_elab.proofs.ScopePlacing.{top_next, all_placed}
use Rattle.bb_elab.proofs.scopes.place_scopes.Goals as goal

pub place_scope-requires : goal.place_scope-requires
place_scope-requires c =
    let text = map syntax c.args.checked.now in
    let t = some_at text c.args.top (omega (arith, c.requires.top, length-map c.args.checked.now syntax)) in
    let small = c.requires.bounded t.0 t.1 in
    let summarized : AreSummarized text (map (λ list. list.items) c.args.called.now) c.deref.result.now = record {
      lists = c.requires.called;
      each = subst (AllZip IsModuleSummary text) (sym c.deref.ensures.value) (subst (λ l. AllZip IsModuleSummary (map syntax l) c.in_ok-module_summaries.module_summaries.items) c.modules.ensures.modules c.in_ok-module_summaries.ensures.module_summaries);
    } in
    record {
      next = (design_on text t.0, _, _, top_next text _ _ c.args.top t.0 _ t.1 (record { faultless = c.modules.ensures.checked.sound; top = there_at text c.args.top t.0 t.1; shallow = small.0; small = small.1 }) summarized c.new.ensures.items refl);
    }

pub returns : goal.returns
returns c = record {
  placed = λ t at.
      let text = map syntax c.args.checked.now in
      let small = c.requires.bounded t at in
      let summarized : AreSummarized text (map (λ list. list.items) c.args.called.now) c.deref.result.now = record {
        lists = c.requires.called;
        each = subst (AllZip IsModuleSummary text) (sym c.deref.ensures.value) (subst (λ l. AllZip IsModuleSummary (map syntax l) c.in_ok-module_summaries.module_summaries.items) c.modules.ensures.modules c.in_ok-module_summaries.ensures.module_summaries);
      } in
      all_placed (design_on text t) _ _ _ c.new.ensures.items
      (c.in_ok-place_scope.ensures.placed (design_on text t) _ _ (top_next text _ _ c.args.top t _ at (record { faultless = c.modules.ensures.checked.sound; top = there_at text c.args.top t at; shallow = small.0; small = small.1 }) summarized c.new.ensures.items refl));
}
