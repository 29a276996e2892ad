use Rattle.std.proofs.Common.{ap, ◌∙◌, subst, map}
use Rattle.std.proofs.lemmas.Result.{on_ok_weaker}
use Rattle.std.specs.List.{flat_map}
use Rattle.bb_ast.specs.Inside.Views.{head_view, item_view, module_view}
use Rattle.bb_names.specs.Declarations.{implicit_places, is_declared}
use Rattle.bb_names.specs.Inside.Implicit.{grown}
use Rattle.bb_names.specs.Inside.Indexed.{ArePlaces}
use Rattle.bb_names.proofs.OnceLemmas.{grown-once}
use Rattle.bb_names.proofs.indexed.note_names.Goals as goal

pub returns : goal.returns
returns c =
    let entries = c.declare_all.new.declared.entries in
    let names = flat_map (λ item. implicit_places item.body) (map item_view c.args.parsed.now.items.items) in
    on_ok_weaker c.add_implicit_wires.result (λ step. record {
      ports = subst (λ hs. ArePlaces c.note_ports.new.ports.entries (map (λ head. head.name) (map head_view hs))) c.deref.ensures.value c.in_ok-note_ports.ensures;
      declared = c.in_ok-declare_all.ensures;
      implicit = step ∙ ap (λ is. grown entries c.args.names.now.implicit.keys (flat_map (λ item. implicit_places item.body) (map item_view is))) c.deref-2.ensures.value
          ∙ ap (λ ks. grown entries ks names) c.requires.implicit ∙ grown-once entries (is_declared (module_view c.args.parsed.now)) names (λ n. (c.in_ok-declare_all.ensures n).declared);
    }) c.add_implicit_wires.ensures
