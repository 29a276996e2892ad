-- The symbols of the lines, of which only the last ends a statement.
use Rattle.std.proofs.Common.{◌≡◌, ℕ, Bool, true, false, List, [], ◌∷◌, ◌++◌, map, refl, ap, ap₂, sym, ◌∙◌, append_assoc}
use Rattle.std.specs.Prelude.{codes, decimal}
use Rattle.std.specs.List.{AllByRecursion}
use Rattle.std.proofs.lemmas.Grind.{flat_map-append}
use Rattle.bb_lex.specs.declared.keyword.Keyword.TheVariants as words
use Rattle.bb_lex.specs.declared.mark.Mark.TheVariants.{LeftRound, RightRound, Comma, Semicolon, Colon, Equals, At, Query, LessEqual}
use Rattle.bb_lex.specs.declared.token.Kind.{Kind}
use Rattle.bb_lex.specs.declared.token.Kind.TheVariants as kinds
use Rattle.bb_parse.specs.Symbols.{Symbol, Identifier, Reserved, SizedNumber, PlainNumber, Sign}
use Rattle.bb_parse.specs.Items.{edge_word, gate_word}
use Rattle.bb_parse.specs.Sources.{ends_statement}
use Rattle.bb_fill.specs.Words.{NetWord, Bit, Named, CellNet, ChoiceNet}
use Rattle.bb_fill.specs.Lines.{Line, Module, Input, Output, Reg, Gate, Assign, Always, End, Primitive}
use Rattle.bb_fill.specs.Lines as lines
use Rattle.bb_readback.specs.Laws.Modules.{gate_of}
use Rattle.bb_readback.specs.Inside.Meanings.{symbols_of, meaning}
use Rattle.bb_readback.specs.Inside.Written.{Written, OneMark, Blank}
use Rattle.bb_readback.specs.Inside.WrittenLines.{written_word, written_more, written_list, written_line, spaced, ended, header_prefix, gate_prefix, assign_prefix, always_prefix, bracketed}

abbrev pub word_symbol : List ℕ → NetWord → Symbol
word_symbol stem (Bit b) = SizedNumber (b ∷ [])
word_symbol stem (Named name) = Identifier name
word_symbol stem (CellNet number) = Identifier (stem ++ decimal number)
word_symbol stem (ChoiceNet number) = Identifier (stem ++ codes "t" ++ decimal number)

-- words with a comma before each
abbrev pub more_symbols : List ℕ → List NetWord → List Symbol
more_symbols stem [] = []
more_symbols stem (word ∷ words) = Sign Comma ∷ word_symbol stem word ∷ more_symbols stem words

abbrev pub list_symbols : List ℕ → List NetWord → List Symbol
list_symbols stem [] = []
list_symbols stem (word ∷ words) = word_symbol stem word ∷ more_symbols stem words

-- a line but for the mark or the word that ends it
abbrev pub line_prefix : List ℕ → Line → List Symbol
line_prefix stem (Module ports) =
    Reserved words.Module ∷ Identifier (codes "filled") ∷ Sign LeftRound ∷ (list_symbols stem (map Named ports) ++ Sign RightRound ∷ [])
line_prefix stem (Input name) = Reserved words.Input ∷ Identifier name ∷ []
line_prefix stem (Output name) = Reserved words.Output ∷ Identifier name ∷ []
line_prefix stem (Reg name) = Reserved words.Reg ∷ Identifier name ∷ []
line_prefix stem (Gate primitive out ins) =
    Reserved (gate_word (gate_of primitive)) ∷ Sign LeftRound ∷ (list_symbols stem (out ∷ ins) ++ Sign RightRound ∷ [])
line_prefix stem (Assign left condition high low) =
    Reserved words.Assign ∷ word_symbol stem left ∷ Sign Equals ∷ word_symbol stem condition
    ∷ Sign Query ∷ word_symbol stem high ∷ Sign Colon ∷ word_symbol stem low ∷ []
line_prefix stem (Always falling clock name data_word) =
    Reserved words.Always ∷ Sign At ∷ Sign LeftRound ∷ Reserved (edge_word falling) ∷ Identifier clock
    ∷ Sign RightRound ∷ Identifier name ∷ Sign LessEqual ∷ word_symbol stem data_word ∷ []
line_prefix stem End = []

abbrev pub line_end : Line → Symbol
line_end End = Reserved words.Endmodule
line_end line = Sign Semicolon

abbrev pub line_symbols : List ℕ → Line → List Symbol
line_symbols stem line = line_prefix stem line ++ line_end line ∷ []

word_meaning : (stem : List ℕ) (word : NetWord) → meaning (written_word stem word) ≡ word_symbol stem word ∷ []
word_meaning stem (Bit b) = refl
word_meaning stem (Named name) = refl
word_meaning stem (CellNet number) = refl
word_meaning stem (ChoiceNet number) = refl

more_meaning : (stem : List ℕ) (words : List NetWord) → meaning (written_more stem words) ≡ more_symbols stem words
more_meaning stem [] = refl
more_meaning stem (word ∷ words) =
    flat_map-append symbols_of (OneMark Comma ∷ written_word stem word) (written_more stem words)
    ∙ rw (word_meaning stem word, more_meaning stem words) refl

list_meaning : (stem : List ℕ) (words : List NetWord) → meaning (written_list stem words) ≡ list_symbols stem words
list_meaning stem [] = refl
list_meaning stem (word ∷ words) =
    flat_map-append symbols_of (written_word stem word) (written_more stem words) ∙ rw (word_meaning stem word, more_meaning stem words) refl

bracket_meaning : (stem : List ℕ) (prefix : List Written) (words : List NetWord)
    → meaning (bracketed prefix stem words) ≡ meaning prefix ++ (list_symbols stem words ++ Sign RightRound ∷ Sign Semicolon ∷ [])
bracket_meaning stem prefix words =
    flat_map-append symbols_of (prefix ++ written_list stem words) (OneMark RightRound ∷ ended)
    ∙ ap (λ l. l ++ Sign RightRound ∷ Sign Semicolon ∷ [])
    (flat_map-append symbols_of prefix (written_list stem words) ∙ ap (λ l. meaning prefix ++ l) (list_meaning stem words))
    ∙ append_assoc (meaning prefix) (list_symbols stem words) (Sign RightRound ∷ Sign Semicolon ∷ [])

after_meaning : (prefix : List Written) (xs : List Symbol) (stem : List ℕ) (word : NetWord) (back : List Written)
    → meaning prefix ≡ xs
    → meaning (prefix ++ written_word stem word ++ back) ≡ xs ++ word_symbol stem word ∷ meaning back
after_meaning prefix xs stem word back before =
    flat_map-append symbols_of (prefix ++ written_word stem word) back
    ∙ ap (λ l. l ++ meaning back) (flat_map-append symbols_of prefix (written_word stem word) ∙ ap₂ ◌++◌ before (word_meaning stem word))
    ∙ append_assoc xs (word_symbol stem word ∷ []) (meaning back)

pub line_meaning : (stem : List ℕ) (line : Line) → meaning (written_line stem line) ≡ line_symbols stem line
line_meaning stem (Module ports) =
    bracket_meaning stem header_prefix (map Named ports)
    ∙ ap (λ l. Reserved words.Module ∷ Identifier (codes "filled") ∷ Sign LeftRound ∷ l)
    (sym (append_assoc (list_symbols stem (map Named ports)) (Sign RightRound ∷ []) (Sign Semicolon ∷ [])))
line_meaning stem (Input name) = refl
line_meaning stem (Output name) = refl
line_meaning stem (Reg name) = refl
line_meaning stem (Gate primitive out ins) =
    bracket_meaning stem (gate_prefix primitive) (out ∷ ins)
    ∙ ap (λ l. Reserved (gate_word (gate_of primitive)) ∷ Sign LeftRound ∷ l)
    (sym (append_assoc (list_symbols stem (out ∷ ins)) (Sign RightRound ∷ []) (Sign Semicolon ∷ [])))
line_meaning stem (Assign left condition high low) =
    let a : List Written = assign_prefix in
    let b : List Written = a ++ written_word stem left ++ spaced (OneMark Equals) in
    let c : List Written = b ++ written_word stem condition ++ spaced (OneMark Query) in
    let d : List Written = c ++ written_word stem high ++ spaced (OneMark Colon) in
    let x : List Symbol = Reserved words.Assign ∷ word_symbol stem left ∷ Sign Equals ∷ [] in
    let y : List Symbol = x ++ word_symbol stem condition ∷ Sign Query ∷ [] in
    let z : List Symbol = y ++ word_symbol stem high ∷ Sign Colon ∷ [] in
    after_meaning d z stem low ended
    (after_meaning c y stem high (spaced (OneMark Colon))
    (after_meaning b x stem condition (spaced (OneMark Query))
    (after_meaning a (Reserved words.Assign ∷ []) stem left (spaced (OneMark Equals)) refl)))
line_meaning stem (Always falling clock name data_word) =
    let a : List Written = always_prefix falling in
    let b : List Written = a ++ written_word stem (Named clock) ++ (OneMark RightRound ∷ Blank ∷ []) in
    let c : List Written = b ++ written_word stem (Named name) ++ spaced (OneMark LessEqual) in
    after_meaning c (meaning c) stem data_word ended refl
line_meaning stem End = refl

-- the kind of the token that a symbol implements
abbrev pub symbol_kind : Symbol → Kind
symbol_kind (Identifier name) = kinds.Name
symbol_kind (Reserved word) = kinds.Word word
symbol_kind (SizedNumber bits) = kinds.Sized
symbol_kind (PlainNumber n) = kinds.Plain
symbol_kind (Sign mark) = kinds.Mark mark

-- no statement ends among these
abbrev pub EndNot : List Symbol → Type 0
EndNot symbols = AllByRecursion (λ s. ends_statement (symbol_kind s) ≡ false) symbols

word_ends_not : (stem : List ℕ) (word : NetWord) → ends_statement (symbol_kind (word_symbol stem word)) ≡ false
word_ends_not stem (Bit b) = refl
word_ends_not stem (Named name) = refl
word_ends_not stem (CellNet number) = refl
word_ends_not stem (ChoiceNet number) = refl

more_end_not : (stem : List ℕ) (words : List NetWord) (back : List Symbol) → EndNot back → EndNot (more_symbols stem words ++ back)
more_end_not stem [] back rest = rest
more_end_not stem (word ∷ words) back rest = (refl, (word_ends_not stem word, more_end_not stem words back rest))

list_end_not : (stem : List ℕ) (words : List NetWord) (back : List Symbol) → EndNot back → EndNot (list_symbols stem words ++ back)
list_end_not stem [] back rest = rest
list_end_not stem (word ∷ words) back rest = (word_ends_not stem word, more_end_not stem words back rest)

gate_ends_not : (primitive : Primitive) → ends_statement (kinds.Word (gate_word (gate_of primitive))) ≡ false
gate_ends_not lines.Not = refl
gate_ends_not lines.And = refl
gate_ends_not lines.Or = refl
gate_ends_not lines.Xor = refl
gate_ends_not lines.Buf = refl

edge_ends_not : (falling : Bool) → ends_statement (kinds.Word (edge_word falling)) ≡ false
edge_ends_not true = refl
edge_ends_not false = refl

pub prefix_ends_not : (stem : List ℕ) (line : Line) → EndNot (line_prefix stem line)
prefix_ends_not stem (Module ports) = (refl, (refl, (refl, list_end_not stem (map Named ports) (Sign RightRound ∷ []) (refl, tt))))
prefix_ends_not stem (Input name) = (refl, (refl, tt))
prefix_ends_not stem (Output name) = (refl, (refl, tt))
prefix_ends_not stem (Reg name) = (refl, (refl, tt))
prefix_ends_not stem (Gate primitive out ins) =
    (gate_ends_not primitive, (refl, list_end_not stem (out ∷ ins) (Sign RightRound ∷ []) (refl, tt)))
prefix_ends_not stem (Assign left condition high low) =
    (refl, (word_ends_not stem left, (refl, (word_ends_not stem condition, (refl, (word_ends_not stem high, (refl, (word_ends_not stem low, tt))))))))
prefix_ends_not stem (Always falling clock name data_word) =
    (refl, (refl, (refl, (edge_ends_not falling, (refl, (refl, (refl, (refl, (word_ends_not stem data_word, tt)))))))))
prefix_ends_not stem End = tt

pub end_ends : (line : Line) → ends_statement (symbol_kind (line_end line)) ≡ true
end_ends End = refl
end_ends (Module ports) = refl
end_ends line = refl
