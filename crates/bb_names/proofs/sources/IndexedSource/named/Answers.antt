use Rattle.std.proofs.Common.{ap, sym, ◌∙◌, slice_get, arith}
use Rattle.std.specs.Prelude.{option_map}
use Rattle.bb_ast.specs.Inside.Views.{module_view}
use Rattle.bb_names.proofs.IndexLemmas.{module_at, module_nowhere, got_at, option_map-map}
use Rattle.bb_names.proofs.sources.IndexedSource.named.Goals as goal

pub returns-in-Some : goal.returns-in-Some
returns-in-Some c =
    let there = module_at c.args.name.now 0 c.args.self.now c.in-Some.place (sym c.place.ensures ∙ c.in-Some.is) in
    let items = c.deref.ensures.value ∙ c.self.view_is in
    let got = got_at (λ m. m.now) _ c.get.result c.deref.result.now c.in-Some.place c.get.ensures.lookup.3 (λ x h. h.0) c.get.ensures.lookup.1 ∙ ap (λ ms. slice_get ms c.in-Some.place) items in
    sym (option_map-map module_view (λ m. m.now) c.get.result) ∙ ap (option_map module_view) (got ∙ ap (slice_get c.args.self.now) (omega arith)) ∙ sym there.1

pub returns-in-None : goal.returns-in-None
returns-in-None c = sym (module_nowhere c.args.name.now 0 c.args.self.now (sym c.place.ensures ∙ c.in-None.is))
