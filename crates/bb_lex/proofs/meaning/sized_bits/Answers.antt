use Rattle.std.proofs.Common.{◌%◌, ◌^◌, List, Bool, ap, sym, ◌∙◌, arith, subst}
use Rattle.bb_lex.specs.Numbers.{weighted_bits}
use Rattle.bb_lex.specs.Cut.{bytes_of}
use Rattle.bb_lex.specs.Meaning.{MeansBits}
use Rattle.bb_lex.specs.Inside.Numbers.{size_of, value_of}
use Rattle.bb_lex.proofs.Meanings.{weighted_bits-mod, reports_read}
use Rattle.bb_lex.proofs.meaning.sized_bits.Goals as goal

pub returns : goal.returns
returns c =
    let token = c.args.token.now in
    let text = c.args.text.now in
    let bytes = bytes_of token text in
    subst (λ (bits : List Bool). MeansBits token text bits)
    (sym (
    c.in_ok-bits.ensures
    ∙ ap (λ n. weighted_bits n c.value_of-value.result) c.size_of-size.ensures.size
    ∙ ap (λ v. weighted_bits (size_of bytes) v) (c.value_of-value.ensures ∙ ap (λ b. value_of b % 2 ^ 128) c.bytes_of.ensures)
    ∙ weighted_bits-mod (size_of bytes) (value_of bytes) (omega (arith, c.size_of-size.ensures.size, c.size_of-size.ensures.small))
    ))
    (reports_read token text c.requires.sized c.requires.of_text)
