-- The last token ends after its place, which is the last.
use Rattle.std.proofs.Common.{◌-◌, ◌<◌, arith, ap, length}
use Rattle.bb_lex.specs.declared.token.Token.{Token}
use Rattle.bb_parse.proofs.reader.count.Goals as goal

pub returns-then-end-tokens-clause-count : goal.returns-then-end-tokens-clause-count
returns-then-end-tokens-clause-count c =
    let tokens = c.args.tokens.now in
    let last = c.in-Some.last.now in
    let more : 0 < length tokens = omega (arith, c.if-end-tokens.true) in
    let ends = c.tokens_end_past_their_places.ensures c.args.text.now tokens c.requires (length tokens - 1) last (omega (arith, more)) in
    omega (arith, ends, ap (λ (t : Token). t.«end») c.in-Some.ensures.item.1, c.if-end-tokens.true)
