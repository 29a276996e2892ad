-- The symbols of the grammar for written pieces.
use Rattle.std.specs.Prelude.{List, [], ◌∷◌}
use Rattle.std.specs.List.{flat_map}
use Rattle.bb_parse.specs.Symbols.{Symbol, Identifier, Reserved, SizedNumber, Sign}
use Rattle.bb_readback.specs.Inside.Written.{Written, EscapedName, SimpleName, ReservedWord, BitNumber, OneMark, Blank, Feed}

-- the symbol of a piece; white space has none
abbrev pub symbols_of : Written → List Symbol
symbols_of (EscapedName name) = Identifier name ∷ []
symbols_of (SimpleName bytes) = Identifier bytes ∷ []
symbols_of (ReservedWord bytes keyword) = Reserved keyword ∷ []
symbols_of (BitNumber b) = SizedNumber (b ∷ []) ∷ []
symbols_of (OneMark mark) = Sign mark ∷ []
symbols_of Blank = []
symbols_of Feed = []

abbrev pub meaning : List Written → List Symbol
meaning ws = flat_map symbols_of ws
