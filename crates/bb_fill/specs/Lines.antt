-- The lines of a filled text, as Verilog writes them (IEEE 1364-2005): the header of a module with its ports (12.3),
-- declarations of ports and registers, gates of one output, which is their first terminal (7.2, and 7.3 for buf and
-- not), continuous assignments of a conditional expression (6.1 and 5.1.13), and a register that takes a bit at an edge
-- of its clock (9.7.2 and 9.2.2). The nets that gates and assignments drive are not declared (4.5). Each line ends with
-- a line feed.
use Rattle.std.specs.Prelude.{ℕ, Bool, if◌then◌else◌, List, [], ◌∷◌, ◌++◌, map, codes}
use Rattle.std.specs.List.{flat_map}
use Rattle.bb_fill.specs.Words.{NetWord, printed, word_text}

pub data Primitive : Type 0 where
  Not : Primitive
  And : Primitive
  Or : Primitive
  Xor : Primitive
  Buf : Primitive

pub data Line : Type 0 where
  -- the header, with the texts of the ports
  Module : List (List ℕ) → Line
  -- the declaration of an input, an output or a register
  Input : List ℕ → Line
  Output : List ℕ → Line
  Reg : List ℕ → Line
  -- a gate, with its output and its inputs
  Gate : Primitive → NetWord → List NetWord → Line
  -- to the first word the third is assigned where the second is 1, and the fourth where it is 0
  Assign : NetWord → NetWord → NetWord → NetWord → Line
  -- at the falling or else the rising edge of the one name, the other takes a bit
  Always : Bool → List ℕ → List ℕ → NetWord → Line
  End : Line

-- texts with a comma between each two that follow one another
abbrev pub with_commas : List (List ℕ) → List ℕ
with_commas [] = []
with_commas (text ∷ texts) = text ++ flat_map (λ other. codes "," ++ other) texts

abbrev pub primitive_text : Primitive → List ℕ
primitive_text Not = codes "not"
primitive_text And = codes "and"
primitive_text Or = codes "or"
primitive_text Xor = codes "xor"
primitive_text Buf = codes "buf"

-- a line as it is printed, where the stem is given
abbrev pub line_text : List ℕ → Line → List ℕ
line_text stem (Module ports) = codes "module filled(" ++ with_commas (map printed ports) ++ codes ");\n"
line_text stem (Input name) = codes "input " ++ printed name ++ codes ";\n"
line_text stem (Output name) = codes "output " ++ printed name ++ codes ";\n"
line_text stem (Reg name) = codes "reg " ++ printed name ++ codes ";\n"
line_text stem (Gate gate out ins) = primitive_text gate ++ codes "(" ++ with_commas (map (word_text stem) (out ∷ ins)) ++ codes ");\n"
line_text stem (Assign left condition high low) =
    codes "assign " ++ word_text stem left ++ codes " = " ++ word_text stem condition ++ codes " ? " ++ word_text stem high ++ codes " : " ++ word_text stem low ++ codes ";\n"
line_text stem (Always falling clock name data_word) =
    codes "always @(" ++ (if falling then codes "negedge " else codes "posedge ") ++ printed clock ++ codes ") " ++ printed name ++ codes " <= " ++ word_text stem data_word ++ codes ";\n"
line_text stem End = codes "endmodule\n"
