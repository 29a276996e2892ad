-- Lines that begin with a header and stop with an end read as one module.
use Rattle.std.proofs.Common.{◌≡◌, ℕ, ◌+◌, List, [], ◌∷◌, ◌++◌, map, refl, ap, ap₂, sym, ◌∙◌, subst, append_assoc, append-nil}
use Rattle.std.specs.Prelude.{codes}
use Rattle.std.specs.List.{AllByRecursion, flat_map}
use Rattle.std.proofs.lemmas.Grind.{flat_map-append}
use Rattle.bb_ast.specs.Syntax.{PlainBody}
use Rattle.bb_lex.specs.declared.token.Token.{Token}
use Rattle.bb_lex.specs.Cut.{IsCutUpTo, tokens_after, line_after, AreTokens}
use Rattle.bb_lex.specs.Laws.{ReadPiecesAreLongest}
use Rattle.bb_parse.specs.Sources.{AreItems, IsHeaderOf, IsItemOf, ReadsAs}
use Rattle.bb_fill.specs.Words.{Named}
use Rattle.bb_fill.specs.Lines.{Line, Module, End, line_text}
use Rattle.bb_readback.specs.Laws.Modules.{items_of, plain_head}
use Rattle.bb_readback.specs.Inside.Written.{Written, spelled, spelling, piece_of, AreFit}
use Rattle.bb_readback.specs.Inside.WrittenLines.{written_line}
use Rattle.bb_readback.proofs.Cuts.{written_cut}
use Rattle.bb_readback.proofs.LineDepths.{line_shallow}
use Rattle.bb_readback.proofs.LineFits.{IsGoodLine, AreGoodWords, fits-append, line_fits}
use Rattle.bb_readback.proofs.LineItems.{IsItemLine, item_line, header_line}
use Rattle.bb_readback.proofs.LineSymbols.{line_symbols}
use Rattle.bb_readback.proofs.LineTexts.{line_spelled}
use Rattle.bb_readback.proofs.LineMeanings.{tokens-append}
use Rattle.bb_readback.proofs.Statements.{line_are, line_statement, next_line, line_number}
use Rattle.bb_readback.proofs.Stems.{IsStem}

-- lines that are items, and then the end
abbrev pub AreInner : List Line → Type 0
AreInner lines = AllByRecursion (λ line. IsItemLine line × IsGoodLine line) lines

abbrev written_lines : List ℕ → List Line → List Written
written_lines stem lines = flat_map (written_line stem) lines

lines_spelled : (stem : List ℕ) (lines : List Line) → spelling (written_lines stem lines) ≡ flat_map (line_text stem) lines
lines_spelled stem [] = refl
lines_spelled stem (line ∷ lines) =
    flat_map-append spelled (written_line stem line) (written_lines stem lines) ∙ ap₂ ◌++◌ (line_spelled stem line) (lines_spelled stem lines)

lines_fit : (stem : List ℕ) → IsStem stem → (lines : List Line) → AllByRecursion IsGoodLine lines
    → AreFit (written_lines stem lines) []
lines_fit stem is [] good = tt
lines_fit stem is (line ∷ lines) good =
    fits-append (written_line stem line) (written_lines stem lines) []
    (line_fits stem is line (spelling (written_lines stem lines) ++ []) good.0) (lines_fit stem is lines good.1)

inner_good : (lines : List Line) → AreInner lines → AllByRecursion IsGoodLine (lines ++ End ∷ [])
inner_good [] are = (tt, tt)
inner_good (line ∷ lines) are = (are.0.1, inner_good lines are.1)

-- a text by its first line and the lines after it
text_split : (stem prefix : List ℕ) (line : Line) (lines : List Line) (text : List ℕ)
    → text ≡ prefix ++ spelling (written_lines stem (line ∷ lines))
    → (text ≡ prefix ++ (spelling (written_line stem line) ++ spelling (written_lines stem lines)))
    × (text ≡ (prefix ++ spelling (written_line stem line)) ++ spelling (written_lines stem lines))
text_split stem prefix line lines text is =
    let here : text ≡ prefix ++ (spelling (written_line stem line) ++ spelling (written_lines stem lines)) =
    is ∙ ap (λ l. prefix ++ l) (flat_map-append spelled (written_line stem line) (written_lines stem lines)) in
    (here, here ∙ sym (append_assoc prefix (spelling (written_line stem line)) (spelling (written_lines stem lines))))

-- the items of a module, from one of its lines on
items_read : (stem : List ℕ) → IsStem stem → (text prefix : List ℕ) (lines : List Line) → AreInner lines → (n : ℕ)
    → line_after prefix ≡ n → text ≡ prefix ++ spelling (written_lines stem (lines ++ End ∷ []))
    → AreItems text (tokens_after prefix (map piece_of (written_lines stem (lines ++ End ∷ [])))) (items_of stem n (lines ++ End ∷ [])) []
items_read stem is text prefix [] are n at here =
    (tokens_after prefix (map piece_of (written_line stem End)), (refl, refl), (refl, tt))
items_read stem is text prefix (line ∷ lines) are n at here =
    let back : List Line = lines ++ End ∷ [] in
    let written : List Written = written_line stem line in
    let split = text_split stem prefix line back text here in
    let item = item_line stem line are.0.0 are.0.1 in
    let tokens : List Token = tokens_after prefix (map piece_of written) in
    let others : List Token = tokens_after (prefix ++ spelling written) (map piece_of (written_lines stem back)) in
    let after : List ℕ = spelling (written_lines stem back) in
    let next : line_after (prefix ++ spelling written) ≡ n + 1 = next_line stem is text prefix line after are.0.1 ∙ ap (λ k. k + 1) at in
    let rest = items_read stem is text (prefix ++ spelling written) lines are.1 (n + 1) next split.1 in
    let of_line : IsItemOf text tokens item.body =
    (line_symbols stem line, line_are stem is text prefix line after are.0.1 split.0, line_shallow stem line, 2, item.is) in
    subst (λ (bodies : List PlainBody). AreItems text (tokens_after prefix (map piece_of (written_lines stem (line ∷ back))))
    (map (λ body. record { line = n; body = body }) bodies ++ items_of stem (n + 1) back) [])
    (sym item.only)
    (tokens, others, (tokens-append prefix written (written_lines stem back), line_statement stem is text prefix line after are.0.1 split.0), of_line, sym (line_number stem prefix line ∙ at), rest)

pub lines_read : ReadPiecesAreLongest → (stem : List ℕ) → IsStem stem → (ports : List (List ℕ)) (lines : List Line)
    → AreGoodWords (map Named ports) → AreInner lines
    → ReadsAs (flat_map (line_text stem) (Module ports ∷ (lines ++ End ∷ [])))
    (record { name = codes "filled"; line = 1; heads = map plain_head ports; items = items_of stem 1 (Module ports ∷ (lines ++ End ∷ [])) } ∷ [])
lines_read law stem is ports lines good are =
    let back : List Line = lines ++ End ∷ [] in
    let all : List Line = Module ports ∷ back in
    let text : List ℕ = flat_map (line_text stem) all in
    let ws : List Written = written_lines stem all in
    let spells : text ≡ spelling ws = sym (lines_spelled stem all) in
    let fits : AreFit ws [] = lines_fit stem is all (good, inner_good lines are) in
    let head : List Written = written_line stem (Module ports) in
    let split = text_split stem [] (Module ports) back text spells in
    let after : List ℕ = spelling (written_lines stem back) in
    let first : List Token = tokens_after [] (map piece_of head) in
    let others : List Token = tokens_after (spelling head) (map piece_of (written_lines stem back)) in
    let tokens : AreTokens text (tokens_after [] (map piece_of ws)) = record {
      pieces = map piece_of ws;
      cut = subst (λ t. IsCutUpTo t (map piece_of ws) []) (append-nil (spelling ws) ∙ sym spells) (written_cut law ws [] fits);
      are = refl;
    } in
    let header : IsHeaderOf text first (codes "filled", map plain_head ports) = (
      line_symbols stem (Module ports),
      line_are stem is text [] (Module ports) after good split.0,
      line_shallow stem
          (Module ports),
      header_line stem ports,
    ) in
    let items = items_read stem is text (spelling head) lines are 2 (next_line stem is text [] (Module ports) after good) split.1 in (
      tokens_after [] (map piece_of ws),
      tokens,
      (
        first,
        others,
        [],
        (tokens-append [] head (written_lines stem back), line_statement stem is text [] (Module ports) after good split.0),
        header,
        sym (line_number stem [] (Module ports)),
        items,
        refl,
      ),
    )
