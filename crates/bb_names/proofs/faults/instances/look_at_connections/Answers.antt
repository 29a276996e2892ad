use Rattle.std.proofs.Common.{◌∷◌, [], ap, sym, ◌∙◌, subst, map, take}
use Rattle.std.proofs.lemmas.List.{map-append}
use Rattle.std.specs.Prelude.{option_map}
use Rattle.std.specs.Option.{option_and_then}
use Rattle.bb_ast.specs.Inside.Views.{named_view, optional_view, module_view}
use Rattle.bb_names.specs.Inside.Firsts.{noted, AreSame}
use Rattle.bb_names.specs.Sites.{PortName, pin_named, joined_sites}
use Rattle.bb_bits.specs.Earlier.{has_name}
use Rattle.bb_names.proofs.Noting.{each-turn, each-all, noted-none, noted-then, seen-more}
use Rattle.bb_names.proofs.faults.instances.look_at_connections.Goals as goal

pub loop-name-init : goal.loop-name-init
loop-name-init c = record {
  noted = λ text. sym (noted-none text (module_view c.args.of.now) c.args.found.now);
  names = λ n. ap (has_name n) c.requires.none;
}

pub loop-name-preserved : goal.loop-name-preserved
loop-name-preserved c =
    let m = module_view c.args.of.now in
    let i = c.loop-name.name-index in
    let x = c.loop-name-item.result in
    let to = option_map (λ t. module_view t.now) c.args.target in
    let names = map (λ y. y.0) (map named_view (take i c.args.all.now)) in
    record {
      noted = λ text. each-turn text m (λ before y. PortName to (map (λ z. z.0) before) y.0 ∷ joined_sites (option_and_then (λ t. pin_named t y.0) to) y.1) named_view c.args.all.now i x c.args.found.now c.loop-name.found c.look_at_place.new.found c.loop-name-test.true c.loop-name-item.is
          (c.loop-name.invariant.noted text)
          (noted-then text m c.loop-name.found c.look_at_port.new.found c.look_at_place.new.found (PortName to names x.0 ∷ []) (joined_sites (option_and_then (λ t. pin_named t x.0) to) (optional_view x.1))
          (c.in_ok-look_at_port.ensures.noted text m names c.loop-name.invariant.names) (c.in_ok-look_at_place.ensures.noted text ∙ ap (λ p. noted text m c.look_at_port.new.found (joined_sites p (optional_view x.1))) c.pin_by_name.ensures.pin));
      names = subst (AreSame c.look_at_port.new.earlier.keys) (sym (ap (map (λ y. y.0)) (seen-more named_view c.args.all.now i x c.loop-name-test.true c.loop-name-item.is) ∙ map-append (λ y. y.0) (map named_view (take i c.args.all.now)) (named_view x ∷ [])))
          (c.in_ok-look_at_port.ensures.names names c.loop-name.invariant.names);
    }

pub returns : goal.returns
returns c =
    let to = option_map (λ t. module_view t.now) c.args.target in
    record { noted = λ text. each-all text (module_view c.args.of.now) (λ before y. PortName to (map (λ z. z.0) before) y.0 ∷ joined_sites (option_and_then (λ t. pin_named t y.0) to) y.1) named_view c.args.all.now c.loop-name.name-index c.args.found.now c.loop-name.found c.loop-name-test.false (c.loop-name.invariant.noted text) }
