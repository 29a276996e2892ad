use Rattle.std.proofs.Common.{◌≡◌, ◌++◌, ◌∷◌, [], ap, sym, ◌∙◌, append_assoc, rules}
use Rattle.bb_names.proofs.sources.IndexedSource.new.Goals as goal

pub loop-parsed-preserved : goal.loop-parsed-preserved
loop-parsed-preserved c =
    let split : c.loop-parsed.parsed-iterator.rest.items ≡ c.in-Some.parsed ∷ c.next.new.self.rest.items = search rules in
    record {
      all = ap (λ ms. ms ++ c.next.new.self.rest.items) c.in_ok-add_module.ensures.modules ∙ append_assoc c.loop-parsed.modules.items (c.in-Some.parsed ∷ []) c.next.new.self.rest.items
          ∙ ap (λ ms. c.loop-parsed.modules.items ++ ms) (sym split) ∙ c.loop-parsed.invariant.all;
      len = c.in_ok-add_module.ensures.len;
      places = c.in_ok-add_module.ensures.places c.loop-parsed.invariant.places;
    }
