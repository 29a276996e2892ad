use Rattle.std.proofs.Common.{List, sym, subst}
use Rattle.std.specs.Prelude.{All}
use Rattle.bb_lex.specs.declared.token.Token.{Token}
use Rattle.bb_lex.specs.Cut.{IsTokenOf}
use Rattle.bb_test_texts.proofs.lex_tests.printed.Goals as goal

pub print_all-requires : goal.print_all-requires
print_all-requires c =
    let text = c.args.text.now in
    subst (λ (list : List Token). All (λ (token : Token). IsTokenOf token text) list) (sym c.deref.ensures.value) (c.tokens_are_in_text.ensures text c.in-Ok.list.items c.in-Ok.ensures.ok)
