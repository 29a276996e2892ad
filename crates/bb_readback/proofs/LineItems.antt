-- The symbols of a line are the item that the line says, or the header of the module.
use Rattle.std.proofs.Common.{◌≡◌, inl, ℕ, zero, suc, Bool, true, false, MatchBool, ◌<◌, None, List, [], ◌∷◌, ◌++◌, length, map, refl, ap, arith, append_assoc}
use Rattle.std.specs.Prelude.{codes}
use Rattle.bb_ast.specs.declared.module.Dir.TheVariants as directions
use Rattle.bb_ast.specs.Syntax.{Expression, Net, Cond, arm, no_arm, PlainBody, Regs, Assign as Assigns, Gates, Always as Takes}
use Rattle.bb_lex.specs.declared.keyword.Keyword.TheVariants as words
use Rattle.bb_lex.specs.declared.mark.Mark.TheVariants.{LeftRound, RightRound, Comma, Semicolon, Colon, Equals, Query, LessEqual}
use Rattle.bb_parse.specs.Symbols.{Symbol, Identifier, Reserved, Sign}
use Rattle.bb_parse.specs.Lists.{Rule, IsName, IsMore, IsList}
use Rattle.bb_parse.specs.Expressions.{IsPrimary, select, sized, is_bitwise, IsLevel, IsExpr, IsLval}
use Rattle.bb_parse.specs.Declarations.{IsPlainHead, AreHeads, empty, named, IsHeader}
use Rattle.bb_parse.specs.Items.{gate_word, AreTerminals, IsItem}
use Rattle.bb_fill.specs.Words.{NetWord, Bit, Named, CellNet, ChoiceNet}
use Rattle.bb_fill.specs.Lines.{Line, Primitive, Module, Input, Output, Reg, Gate, Assign, Always, End}
use Rattle.bb_readback.specs.Laws.Modules.{expression_of, gate_of, port_body, bodies_of, plain_head}
use Rattle.bb_readback.proofs.LineFits.{IsGoodLine, IsNet}
use Rattle.bb_readback.proofs.LineSymbols.{word_symbol, more_symbols, list_symbols, line_symbols}

either_of : (b : Bool) (A B : Type 0) → A → B → MatchBool b A B
either_of true A B p q = p
either_of false A B p q = q

module _ (stem : List ℕ) where
  word_primary : (inner : Rule Expression) (word : NetWord) (rest : List Symbol)
      → IsPrimary inner (word_symbol stem word ∷ rest) (expression_of stem word) rest
  word_primary inner (Bit b) rest = sized (b ∷ []) refl refl
  word_primary inner (Named name) rest = select refl
  word_primary inner (CellNet number) rest = select refl
  word_primary inner (ChoiceNet number) rest = select refl

  -- it is a chain of every level, with no operator
  word_level : (inner : Rule Expression) (n : ℕ) (word : NetWord) (rest : List Symbol)
      → IsLevel n inner (word_symbol stem word ∷ rest) (expression_of stem word) rest
  word_level inner zero word rest = (0, word_symbol stem word ∷ rest, expression_of stem word, refl, inl (word_primary inner word rest), refl)
  word_level inner (suc n) word rest =
      let e = expression_of stem word in
      either_of (is_bitwise n) _ _ (e, [], rest, word_level inner n word rest, refl, refl) (e, [], rest, word_level inner n word rest, refl, refl)

  word_expr : (n : ℕ) (word : NetWord) (rest : List Symbol)
      → IsExpr (suc n) (word_symbol stem word ∷ rest) (expression_of stem word) rest
  word_expr n word rest = ([], expression_of stem word, word_level (IsExpr n) 9 word rest, refl)

  -- a condition with both its values
  choice_expr : (condition high low : NetWord) (rest : List Symbol)
      → IsExpr 2 (word_symbol stem condition ∷ Sign Query ∷ word_symbol stem high ∷ Sign Colon ∷ word_symbol stem low ∷ rest)
      (Cond (arm (expression_of stem condition) (expression_of stem high) no_arm) (expression_of stem low)) rest
  choice_expr condition high low rest = (
    (expression_of stem condition, expression_of stem high) ∷ [],
    expression_of stem low,
    (
      word_symbol stem high ∷ Sign Colon ∷ word_symbol stem low ∷ rest,
      word_symbol stem low ∷ rest,
      word_level (IsExpr 1) 9 condition (Sign Query ∷ word_symbol stem high ∷ Sign Colon ∷ word_symbol stem low ∷ rest),
      word_expr 0 high (Sign Colon ∷ word_symbol stem low ∷ rest),
      word_level (IsExpr 1) 9 low rest,
    ),
    refl,
  )

  net_lval : (n : ℕ) (word : NetWord) (rest : List Symbol) → IsNet word
      → IsLval (suc n) (word_symbol stem word ∷ rest) (expression_of stem word) rest
  net_lval n (Bit b) rest is = elim is [ ]
  net_lval n (Named name) rest is = inl refl
  net_lval n (CellNet number) rest is = inl refl
  net_lval n (ChoiceNet number) rest is = inl refl

  more_terminals : (n : ℕ) (words : List NetWord) (rest : List Symbol)
      → IsMore (IsExpr (suc n)) (more_symbols stem words ++ rest) (map (expression_of stem) words) rest
  more_terminals n [] rest = refl
  more_terminals n (word ∷ words) rest = (
    word_symbol stem word ∷ more_symbols stem words ++ rest,
    more_symbols stem words ++ rest,
    refl,
    word_expr n word (more_symbols stem words ++ rest),
    more_terminals n words rest,
  )

  terminals : (n : ℕ) (out : NetWord) (ins : List NetWord) (rest : List Symbol) → 0 < length ins
      → AreTerminals (suc n) (list_symbols stem (out ∷ ins) ++ rest) (map (expression_of stem) (out ∷ ins)) rest
  terminals n out [] rest some = absurd (omega (arith, some))
  terminals n out (word ∷ words) rest some = (
    word_symbol stem word ∷ more_symbols stem words ++ rest,
    word_expr n out (Sign Comma ∷ word_symbol stem word ∷ more_symbols stem words ++ rest),
    (more_symbols stem words ++ rest, word_expr n word (more_symbols stem words ++ rest), more_terminals n words rest),
  )

  more_heads : (ports : List (List ℕ)) (rest : List Symbol)
      → IsMore IsPlainHead (more_symbols stem (map Named ports) ++ rest) (map plain_head ports) rest
  more_heads [] rest = refl
  more_heads (name ∷ names) rest = (
    Identifier name ∷ more_symbols stem (map Named names) ++ rest,
    more_symbols stem (map Named names) ++ rest,
    refl,
    (refl, refl),
    more_heads names rest,
  )

  heads : (ports : List (List ℕ)) (rest : List Symbol)
      → AreHeads (Sign LeftRound ∷ (list_symbols stem (map Named ports) ++ Sign RightRound ∷ rest)) (map plain_head ports) rest
  heads [] rest = empty refl refl
  heads (name ∷ names) rest =
      named (list_symbols stem (map Named (name ∷ names)) ++ Sign RightRound ∷ rest) refl
      (more_symbols stem (map Named names) ++ Sign RightRound ∷ rest, (refl, refl), more_heads names (Sign RightRound ∷ rest))

  pub header_line : (ports : List (List ℕ))
      → IsHeader (line_symbols stem (Module ports)) (codes "filled", map plain_head ports) []
  header_line ports = (
    Sign LeftRound ∷ (list_symbols stem (map Named ports) ++ Sign RightRound ∷ Sign Semicolon ∷ []),
    ap (λ l. Reserved words.Module ∷ Identifier (codes "filled") ∷ Sign LeftRound ∷ l)
        (append_assoc (list_symbols stem (map Named ports)) (Sign RightRound ∷ []) (Sign Semicolon ∷ [])),
    heads ports (Sign Semicolon ∷ []),
  )

-- a line that is an item
abbrev pub IsItemLine : Line → Type 0
IsItemLine (Module ports) = ⊥
IsItemLine End = ⊥
IsItemLine line = Unit {0}

-- the item that a line is
pub record HasItem (stem : List ℕ) (line : Line) : Type 0 where
  pub body : PlainBody
  pub only : bodies_of stem line ≡ body ∷ []
  pub is : IsItem 2 (line_symbols stem line) body []

declared_name : (stem : List ℕ) (name : List ℕ)
    → IsList IsName (Identifier name ∷ Sign Semicolon ∷ []) (name ∷ []) (Sign Semicolon ∷ [])
declared_name stem name = (Sign Semicolon ∷ [], refl, refl)

gate_line : (stem : List ℕ) (primitive : Primitive) (out : NetWord) (ins : List NetWord) → 0 < length ins
    → IsItem 2 (line_symbols stem (Gate primitive out ins)) (Gates (gate_of primitive) ((None, map (expression_of stem) (out ∷ ins)) ∷ [])) []
gate_line stem primitive out ins some =
    let inner : List Symbol = list_symbols stem (out ∷ ins) ++ Sign RightRound ∷ Sign Semicolon ∷ [] in (
      Sign LeftRound ∷ inner,
      ap (λ l. Reserved (gate_word (gate_of primitive)) ∷ Sign LeftRound ∷ l)
          (append_assoc (list_symbols stem (out ∷ ins)) (Sign RightRound ∷ []) (Sign Semicolon ∷ [])),
      (Sign Semicolon ∷ [], (inner, refl, terminals stem 1 out ins (Sign RightRound ∷ Sign Semicolon ∷ []) some), refl),
    )

pub item_line : (stem : List ℕ) (line : Line) → IsItemLine line → IsGoodLine line → HasItem stem line
item_line stem (Module ports) is good = elim is [ ]
item_line stem End is good = elim is [ ]
item_line stem (Input name) is good =
    let x : List Symbol = Identifier name ∷ Sign Semicolon ∷ [] in
    record { body = port_body directions.Input name; only = refl; is = (x, (x, x, refl, refl, refl), declared_name stem name) }
item_line stem (Output name) is good =
    let x : List Symbol = Identifier name ∷ Sign Semicolon ∷ [] in
    record { body = port_body directions.Output name; only = refl; is = (x, (x, x, refl, refl, refl), declared_name stem name) }
item_line stem (Reg name) is good =
    let x : List Symbol = Identifier name ∷ Sign Semicolon ∷ [] in
    record { body = Regs None (name ∷ []); only = refl; is = (x, x, refl, refl, declared_name stem name) }
item_line stem (Gate primitive out ins) is good = record {
  body = Gates (gate_of primitive) ((None, map (expression_of stem) (out ∷ ins)) ∷ []);
  only = refl;
  is = gate_line stem primitive out ins good.2;
}
item_line stem (Assign left condition high low) is good =
    let right : List Symbol =
    word_symbol stem condition ∷ Sign Query ∷ word_symbol stem high ∷ Sign Colon ∷ word_symbol stem low ∷ Sign Semicolon ∷ [] in
    record {
      body =
          Assigns ((expression_of stem left, Cond (arm (expression_of stem condition) (expression_of stem high) no_arm) (expression_of stem low)) ∷ []);
      only = refl;
      is = (
        word_symbol stem left ∷ Sign Equals ∷ right,
        refl,
        (Sign Semicolon ∷ [], (right, net_lval stem 1 left (Sign Equals ∷ right) good.0, choice_expr stem condition high low (Sign Semicolon ∷ [])), refl),
      );
    }
item_line stem (Always falling clock name data_word) is good =
    let right : List Symbol = word_symbol stem data_word ∷ Sign Semicolon ∷ [] in
    let left : List Symbol = Identifier name ∷ Sign LessEqual ∷ right in
    record {
      body = Takes (record { falling = falling; clock = Net clock; left = Net name; right = expression_of stem data_word });
      only = refl;
      is =
          (Identifier clock ∷ Sign RightRound ∷ left, left, right, refl, refl, inl refl, word_expr stem 1 data_word (Sign Semicolon ∷ []));
    }
