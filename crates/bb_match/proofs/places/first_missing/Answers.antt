use Rattle.std.proofs.Common.{All, Contains, take, sym, ◌∙◌, subst}
use Rattle.std.specs.Prelude.{IsSome}
use Rattle.std.specs.Map.{lookup}
use Rattle.std.proofs.lemmas.List.{take_all}
use Rattle.std.proofs.lemmas.List.Elements.{All-weaker}
use Rattle.bb_bits.specs.Names.{same_name}
use Rattle.bb_match.specs.Refusals.{IsMissing}
use Rattle.bb_match.proofs.Loops.{first_at}
use Rattle.bb_match.proofs.PlaceLemmas.{missing_where_none, there_where_some}
use Rattle.bb_match.proofs.places.first_missing.Goals as goal

pub returns-then-not-contains_key-clause-some : goal.returns-then-not-contains_key-clause-some
returns-then-not-contains_key-clause-some c = λ others places.
    let entries = c.args.places.now.entries in
    first_at (IsMissing others) (Contains others) (λ n lacks has. lacks has) c.args.texts.now c.loop-text.text-index c.text-item.result c.loop-text-test.true c.text-item.is
    (All-weaker (λ text. IsSome (lookup (same_name text) entries)) (Contains others) (λ n some. there_where_some others entries n places some) (take c.loop-text.text-index c.args.texts.now) c.loop-text.invariant)
    (missing_where_none others entries c.text-item.result places (sym c.contains_key.ensures ∙ c.if-not-contains_key.true))

pub returns-clause-none : goal.returns-clause-none
returns-clause-none c = λ others places.
    let entries = c.args.places.now.entries in
    subst (All (Contains others)) (take_all c.loop-text.text-index c.args.texts.now c.loop-text-test.false)
    (All-weaker (λ text. IsSome (lookup (same_name text) entries)) (Contains others) (λ n some. there_where_some others entries n places some) (take c.loop-text.text-index c.args.texts.now) c.loop-text.invariant)
