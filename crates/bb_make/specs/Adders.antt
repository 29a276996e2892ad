-- A pair of texts of known answer: a ripple-carry adder of two numbers of n bits, one full adder for each place. Stage
-- i adds the bits ai and bi and the carry into the place, and gives the sum's bit si and the carry out of it. The
-- specification has full adders alone. In the implementation the stage in the middle, number n / 2, is an instance of a
-- module without a body, which is a black box: the full adder fills it. Each text is in the Verilog subset of IEEE
-- 1364-2005 that is read, and its lines end with a line feed.
use Rattle.std.specs.Prelude.{ℕ, zero, suc, ◌+◌, ◌/◌, ◌==◌, if◌then◌else◌, List, [], ◌∷◌, ◌++◌, Option, None, Some, map, codes, decimal}
use Rattle.std.specs.List.{flat_map, range_with_len}
use Rattle.bb_make.specs.Commas.{comma_separated}

-- a name and the number of a place after it
abbrev pub numbered : List ℕ → ℕ → List ℕ
numbered name i = name ++ decimal i

-- the carry into stage i, and with i = n the carry out of the last one
abbrev pub carry : ℕ → ℕ → List ℕ
carry n i = if i == 0 then codes "ci" else if i == n then codes "co" else numbered (codes "c") i

-- the places of n bits, the highest first
abbrev pub bit_numbers : ℕ → List ℕ
bit_numbers zero = []
bit_numbers (suc i) = i ∷ bit_numbers i

-- the inputs of the adder: the two numbers interleaved bit by bit, then the carry
abbrev pub inputs : ℕ → List (List ℕ)
inputs n = flat_map (λ i. numbered (codes "a") i ∷ numbered (codes "b") i ∷ []) (bit_numbers n) ++ codes "ci" ∷ []

-- its outputs: the sum, then the carry
abbrev pub adder_outputs : ℕ → List (List ℕ)
adder_outputs n = map (numbered (codes "s")) (bit_numbers n) ++ codes "co" ∷ []

-- the header of a module with these inputs and outputs, which are its ports in this order, and their declarations
abbrev pub header : List ℕ → List (List ℕ) → List (List ℕ) → List ℕ
header name ins outs =
    codes "module " ++ name ++ codes "(" ++ comma_separated (ins ++ outs) ++ codes ");\n"
    ++ codes "input " ++ comma_separated ins ++ codes ";\n"
    ++ codes "output " ++ comma_separated outs ++ codes ";\n"

-- what is connected to the ports a, b, c, s and o of stage i
abbrev pub stage_connections : ℕ → ℕ → List (List ℕ)
stage_connections n i = numbered (codes "a") i ∷ numbered (codes "b") i ∷ carry n i ∷ numbered (codes "s") i ∷ carry n (i + 1) ∷ []

-- stage i as an instance ui of a module
abbrev pub stage_line : List ℕ → ℕ → ℕ → List ℕ
stage_line cell n i = cell ++ codes " u" ++ decimal i ++ codes "(" ++ comma_separated (stage_connections n i) ++ codes ");\n"

-- the inputs and the outputs of a stage
abbrev pub stage_inputs : List (List ℕ)
stage_inputs = codes "a" ∷ codes "b" ∷ codes "c" ∷ []

abbrev pub stage_outputs : List (List ℕ)
stage_outputs = codes "s" ∷ codes "o" ∷ []

-- the end of a module
abbrev pub end_line : List ℕ
end_line = codes "endmodule\n"

-- the module fa: the sum is the parity of the three bits, the carry their majority
abbrev pub full_adder : List ℕ
full_adder = header (codes "fa") stage_inputs stage_outputs ++ codes "xor(s,a,b,c);\nassign o = a & b | a & c | b & c;\n" ++ end_line

-- the module hole, which has no body
abbrev pub hole : List ℕ
hole = header (codes "hole") stage_inputs stage_outputs ++ end_line

-- the module of which stage i is an instance, where one stage or none is the hole
abbrev pub cell : Option ℕ → ℕ → List ℕ
cell None i = codes "fa"
cell (Some gap) i = if i == gap then codes "hole" else codes "fa"

-- the module add with its stages, and the full adder
abbrev pub adder : Option ℕ → ℕ → List ℕ
adder gap n = header (codes "add") (inputs n) (adder_outputs n) ++ flat_map (λ i. stage_line (cell gap i) n i) (range_with_len 0 n) ++ end_line ++ full_adder

-- the specification: each stage is a full adder
abbrev pub made_spec : ℕ → List ℕ
made_spec n = adder None n

-- the implementation: the stage in the middle is the hole
abbrev pub made_imp : ℕ → List ℕ
made_imp n = adder (Some (n / 2)) n ++ hole
