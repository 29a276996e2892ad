-- The tokens of each line are a statement, on the line that they are counted on.
use Rattle.std.proofs.Common.{◌≡◌, ℕ, ◌+◌, true, List, [], ◌∷◌, ◌++◌, map, refl, ap, ◌∙◌, subst}
use Rattle.bb_lex.specs.declared.token.Token.{Token}
use Rattle.bb_lex.specs.Cut.{tokens_after, line_after}
use Rattle.bb_parse.specs.Symbols.{Symbol, Identifier, Reserved, SizedNumber, PlainNumber, Sign, IsSymbol, AreSymbols}
use Rattle.bb_parse.specs.Sources.{ends_statement, IsStatement, line_of}
use Rattle.bb_fill.specs.Lines.{Line, Module, Input, Output, Reg, Gate, Assign, Always, End}
use Rattle.bb_readback.specs.Inside.Written.{spelling, piece_of}
use Rattle.bb_readback.specs.Inside.WrittenLines.{written_line}
use Rattle.bb_readback.proofs.Feeds.{line-more}
use Rattle.bb_readback.proofs.LineFits.{IsGoodLine, line_fits}
use Rattle.bb_readback.proofs.LineSymbols.{line_prefix, line_end, line_symbols, line_meaning, symbol_kind, EndNot, prefix_ends_not, end_ends}
use Rattle.bb_readback.proofs.LineTexts.{line_feeds}
use Rattle.bb_readback.proofs.LineMeanings.{written_symbols}
use Rattle.bb_readback.proofs.Stems.{IsStem}

kind_is : (text : List ℕ) (t : Token) (s : Symbol) → IsSymbol text t s → t.kind ≡ symbol_kind s
kind_is text t (Identifier name) is = is.0
kind_is text t (Reserved word) is = is
kind_is text t (SizedNumber bits) is = is.0
kind_is text t (PlainNumber n) is = is.0
kind_is text t (Sign mark) is = is

-- tokens of which the last alone ends a statement
statement : (text : List ℕ) (tokens : List Token) (prefix : List Symbol) (last : Symbol)
    → AreSymbols text tokens (prefix ++ last ∷ []) → EndNot prefix → ends_statement (symbol_kind last) ≡ true → IsStatement tokens
statement text [] [] last are not end = elim are [ ]
statement text [] (s ∷ prefix) last are not end = elim are [ ]
statement text (t ∷ []) [] last are not end = ap ends_statement (kind_is text t last are.0) ∙ end
statement text (t ∷ u ∷ tokens) [] last are not end = elim are.1 [ ]
statement text (t ∷ []) (s ∷ []) last are not end = elim are.1 [ ]
statement text (t ∷ []) (s ∷ r ∷ prefix) last are not end = elim are.1 [ ]
statement text (t ∷ u ∷ tokens) (s ∷ prefix) last are not end =
    (ap ends_statement (kind_is text t s are.0) ∙ not.0, statement text (u ∷ tokens) prefix last are.1 not.1 end)

module _ (stem : List ℕ) (is : IsStem stem) (text prefix : List ℕ) (line : Line) (after : List ℕ) (good : IsGoodLine line) where
  pub line_are : text ≡ prefix ++ (spelling (written_line stem line) ++ after)
      → AreSymbols text (tokens_after prefix (map piece_of (written_line stem line))) (line_symbols stem line)
  line_are here =
      subst (AreSymbols text (tokens_after prefix (map piece_of (written_line stem line)))) (line_meaning stem line)
      (written_symbols text prefix (written_line stem line) after here (line_fits stem is line after good))

  pub line_statement : text ≡ prefix ++ (spelling (written_line stem line) ++ after)
      → IsStatement (tokens_after prefix (map piece_of (written_line stem line)))
  line_statement here =
      statement text (tokens_after prefix (map piece_of (written_line stem line))) (line_prefix stem line) (line_end line)
      (line_are here) (prefix_ends_not stem line) (end_ends line)

  -- after a line the next one begins
  pub next_line : line_after (prefix ++ spelling (written_line stem line)) ≡ line_after prefix + 1
  next_line =
      line-more prefix (written_line stem line) after (line_fits stem is line after good) ∙ ap (λ n. line_after prefix + n) (line_feeds stem line)

pub line_number : (stem prefix : List ℕ) (line : Line)
    → line_of (tokens_after prefix (map piece_of (written_line stem line))) ≡ line_after prefix
line_number stem prefix (Module ports) = refl
line_number stem prefix (Input name) = refl
line_number stem prefix (Output name) = refl
line_number stem prefix (Reg name) = refl
line_number stem prefix (Gate primitive out ins) = refl
line_number stem prefix (Assign left condition high low) = refl
line_number stem prefix (Always falling clock name data_word) = refl
line_number stem prefix End = refl
