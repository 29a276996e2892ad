use Rattle.std.proofs.Common.{◌++◌, ◌∷◌, [], ◌^◌, ◌-◌, min, length, ap, sym, ◌∙◌, if◌then◌else◌}
use Rattle.indexmap.specs.IndexMap.{insert_entry}
use Rattle.bb_bits.specs.Names.{same_name}
use Rattle.bb_names.proofs.NetLemmas.{inserted-after}
use Rattle.bb_names.proofs.nets.add_name.Goals as goal

pub returns-in_ok-insert : goal.returns-in_ok-insert
returns-in_ok-insert c =
    let entries = c.args.index.now.entries in
    let n = c.args.name.now in
    let new = sym c.contains_key.ensures ∙ c.if-not-contains_key.true in
    c.in_ok-insert.ensures.entries ∙ ap (λ k. insert_entry same_name entries k c.place_after-place.result) c.in_ok-clone.ensures.cases
    ∙ inserted-after entries n c.place_after-place.result new ∙ ap (λ p. entries ++ (n, p) ∷ []) (c.place_after-place.ensures ∙ ap (λ k. min k (2 ^ 32 - 1)) c.len.ensures.len)
    ∙ sym (ap (λ b. if b then entries else entries ++ (n, min (length entries) (2 ^ 32 - 1)) ∷ []) new)
