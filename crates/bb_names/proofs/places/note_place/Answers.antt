use Rattle.std.proofs.Common.{cond, ap, sym, ◌∙◌}
use Rattle.std.specs.Prelude.{Some}
use Rattle.std.specs.Map.{lookup}
use Rattle.bb_bits.specs.Names.{same_name}
use Rattle.bb_names.proofs.IndexLemmas.{place_added, place_kept}
use Rattle.bb_names.proofs.places.note_place.Goals as goal

pub returns-in_ok-insert : goal.returns-in_ok-insert
returns-in_ok-insert c = λ names before long.
    let n = c.args.name.now in
    place_added c.args.places.now.entries c.insert.new.self.entries names n c.args.place (sym c.contains_key.ensures ∙ c.if-not-contains_key.true) long
    (λ q. c.in_ok-insert.ensures.updates.0 q ∙ ap (λ k. cond (same_name k q) (Some c.args.place) (lookup (same_name q) c.args.places.now.entries)) c.in_ok-clone.ensures.cases) before

pub returns-else-not-contains_key : goal.returns-else-not-contains_key
returns-else-not-contains_key c = λ names before long. place_kept c.args.places.now.entries names c.args.name.now (sym c.contains_key.ensures ∙ c.if-not-contains_key.false) before
