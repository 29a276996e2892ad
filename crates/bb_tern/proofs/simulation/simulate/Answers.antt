use Rattle.std.proofs.Common.{map, vec_items, sym, ap, ◌∙◌, arith}
use Rattle.std.proofs.lemmas.List.{length-map}
use Rattle.bb_tern.proofs.FirstHits.{first_hit_is, none_is_hit, get_or-map}
use Rattle.bb_tern.proofs.simulation.simulate.Goals as goal

pub returns-in-Some-clause-hit : goal.returns-in-Some-clause-hit
returns-in-Some-clause-hit c =
    first_hit_is c.args.pair.now.spec c.args.pair.now.imp (map vec_items c.args.patterns.now) c.in-Some.k c.in-Some.output c.in_ok-pattern-in-Some.pattern.items c.in-Some.ensures.hit (c.in_ok-pattern-in-Some.ensures.items ∙ (c.deref.ensures.value ∙ (ap vec_items c.index-patterns-k.is ∙ sym (get_or-map vec_items c.args.patterns.now c.in-Some.k c.index-patterns-k.result (omega (arith, c.in-Some.ensures.hit.inside, length-map c.args.patterns.now vec_items))))))

pub returns-clause-none : goal.returns-clause-none
returns-clause-none c = none_is_hit c.args.pair.now.spec c.args.pair.now.imp (map vec_items c.args.patterns.now) c.in-None.ensures.none
