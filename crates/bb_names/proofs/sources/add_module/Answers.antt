use Rattle.std.proofs.Common.{◌++◌, ◌∷◌, [], ap, sym, ◌∙◌, map, subst, arith}
use Rattle.std.proofs.lemmas.Grind.{common_steps}
use Rattle.std.proofs.lemmas.List.{map-append, length-map}
use Rattle.bb_names.specs.Inside.Indexed.{ArePlaces}
use Rattle.bb_names.proofs.sources.add_module.Goals as goal

pub returns-clause-modules : goal.returns-clause-modules
returns-clause-modules c = c.in_ok-push.ensures.items ∙ ap (λ m. c.args.modules.now.items ++ m ∷ []) c.in_ok-new.ensures

pub returns-clause-len : goal.returns-clause-len
returns-clause-len c = grind (arith, common_steps, c.in_ok-push.ensures.len, c.in_ok-push.ensures.items, c.requires.len)

pub returns-clause-places : goal.returns-clause-places
returns-clause-places c = λ before.
    subst (ArePlaces c.note_place.new.places.entries) (sym (ap (map (λ m. m.name)) (returns-clause-modules c) ∙ map-append (λ m. m.name) c.args.modules.now.items (c.args.parsed ∷ [])))
    (c.in_ok-note_place.ensures (map (λ m. m.name) c.args.modules.now.items) before (c.len.ensures ∙ c.requires.len ∙ sym (length-map c.args.modules.now.items (λ m. m.name))))
