-- The lines of a filled text, piece by piece.
use Rattle.std.specs.Prelude.{ℕ, Bool, true, false, List, [], ◌∷◌, ◌++◌, map, codes, decimal}
use Rattle.std.specs.List.{flat_map}
use Rattle.bb_lex.specs.declared.keyword.Keyword.{Keyword}
use Rattle.bb_lex.specs.declared.keyword.Keyword.TheVariants as words
use Rattle.bb_lex.specs.declared.mark.Mark.TheVariants.{LeftRound, RightRound, Comma, Semicolon, Colon, Equals, At, Query, LessEqual}
use Rattle.bb_parse.specs.Items.{edge_word, gate_word}
use Rattle.bb_fill.specs.Words.{NetWord, Bit, Named, CellNet, ChoiceNet}
use Rattle.bb_fill.specs.Lines.{Line, Module, Input, Output, Reg, Gate, Assign, Always, End, Primitive, primitive_text}
use Rattle.bb_readback.specs.Laws.Modules.{gate_of}
use Rattle.bb_readback.specs.Inside.Written.{Written, EscapedName, SimpleName, ReservedWord, BitNumber, OneMark, Blank, Feed}

-- a word; a blank ends an escaped name
abbrev pub written_word : List ℕ → NetWord → List Written
written_word stem (Bit b) = BitNumber b ∷ []
written_word stem (Named name) = EscapedName name ∷ Blank ∷ []
written_word stem (CellNet number) = SimpleName (stem ++ decimal number) ∷ []
written_word stem (ChoiceNet number) = SimpleName (stem ++ codes "t" ++ decimal number) ∷ []

-- words with a comma before each
abbrev pub written_more : List ℕ → List NetWord → List Written
written_more stem words = flat_map (λ word. OneMark Comma ∷ written_word stem word) words

-- words with a comma between each two that follow one another
abbrev pub written_list : List ℕ → List NetWord → List Written
written_list stem [] = []
written_list stem (word ∷ words) = written_word stem word ++ written_more stem words

abbrev pub edge_text : Bool → List ℕ
edge_text false = codes "posedge"
edge_text true = codes "negedge"

-- a mark between blanks
abbrev pub spaced : Written → List Written
spaced w = Blank ∷ w ∷ Blank ∷ []

-- the end of a line
abbrev pub ended : List Written
ended = OneMark Semicolon ∷ Feed ∷ []

-- a reserved word, the name that is declared and the end
abbrev pub declared : List ℕ → Keyword → List ℕ → List Written
declared bytes keyword name = (ReservedWord bytes keyword ∷ Blank ∷ []) ++ written_word [] (Named name) ++ ended

-- what comes before the first word of a line
abbrev pub header_prefix : List Written
header_prefix = ReservedWord (codes "module") words.Module ∷ Blank ∷ SimpleName (codes "filled") ∷ OneMark LeftRound ∷ []

abbrev pub gate_prefix : Primitive → List Written
gate_prefix primitive = ReservedWord (primitive_text primitive) (gate_word (gate_of primitive)) ∷ OneMark LeftRound ∷ []

abbrev pub assign_prefix : List Written
assign_prefix = ReservedWord (codes "assign") words.Assign ∷ Blank ∷ []

abbrev pub always_prefix : Bool → List Written
always_prefix falling =
    ReservedWord (codes "always") words.Always ∷ Blank ∷ OneMark At ∷ OneMark LeftRound
    ∷ ReservedWord (edge_text falling) (edge_word falling) ∷ Blank ∷ []

-- words in brackets after these pieces, and the end
abbrev pub bracketed : List Written → List ℕ → List NetWord → List Written
bracketed prefix stem words = prefix ++ written_list stem words ++ (OneMark RightRound ∷ ended)

abbrev pub written_line : List ℕ → Line → List Written
written_line stem (Module ports) = bracketed header_prefix stem (map Named ports)
written_line stem (Input name) = declared (codes "input") words.Input name
written_line stem (Output name) = declared (codes "output") words.Output name
written_line stem (Reg name) = declared (codes "reg") words.Reg name
written_line stem (Gate primitive out ins) = bracketed (gate_prefix primitive) stem (out ∷ ins)
written_line stem (Assign left condition high low) =
    assign_prefix ++ written_word stem left ++ spaced (OneMark Equals) ++ written_word stem condition
    ++ spaced (OneMark Query) ++ written_word stem high ++ spaced (OneMark Colon) ++ written_word stem low ++ ended
written_line stem (Always falling clock name data_word) =
    always_prefix falling ++ written_word stem (Named clock) ++ (OneMark RightRound ∷ Blank ∷ [])
    ++ written_word stem (Named name) ++ spaced (OneMark LessEqual) ++ written_word stem data_word ++ ended
written_line stem End = ReservedWord (codes "endmodule") words.Endmodule ∷ Feed ∷ []
