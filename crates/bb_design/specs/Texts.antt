-- The texts that name paths and bits. A path's text is its names joined by dots; the top has the empty text. A bit's
-- text is the path's text and a dot, but for the top, then the net's name, and the index in square brackets where the
-- net has a range (as in the hierarchical names of IEEE 1364-2005, 12.5, without the top's own name). A text is a list
-- of bytes.
use Rattle.std.specs.Prelude.{ℕ, ◌+◌, ◌-◌, List, [], ◌∷◌, ◌++◌, Option, Some, None, if◌then◌else◌, nat_le, codes, decimal}
use Rattle.std.specs.Option.{option_and_then}
use Rattle.bb_ast.specs.declared.module.Range.{Range}
use Rattle.bb_names.specs.Declarations.{range_of}
use Rattle.bb_design.specs.Hierarchy.{Path, Design, module_at}
use Rattle.bb_design.specs.NetBits.{Bit}

abbrev pub path_text : Path → List ℕ
path_text [] = []
path_text (n ∷ []) = n
path_text (n ∷ m ∷ path) = n ++ (codes "." ++ path_text (m ∷ path))

-- what comes before the name of a net
abbrev pub path_prefix : Path → List ℕ
path_prefix [] = []
path_prefix (n ∷ path) = path_text (n ∷ path) ++ codes "."

-- the index of the bit at a place, counted from the leftmost on
abbrev pub index_at : Range → ℕ → ℕ
index_at r place = if nat_le r.left r.right then r.left + place else r.left - place

abbrev pub index_text : Option Range → ℕ → List ℕ
index_text None place = []
index_text (Some r) place = codes "[" ++ decimal (index_at r place) ++ codes "]"

-- a net's name with the index of one of its bits
abbrev pub net_bit_text : List ℕ → Option Range → ℕ → List ℕ
net_bit_text n range place = n ++ index_text range place

-- the range of the net of a bit
abbrev pub range_at : Design → Bit → Option Range
range_at d b = option_and_then (λ m. range_of m b.net) (module_at d b.path)

abbrev pub bit_text : Design → Bit → List ℕ
bit_text d b = path_prefix b.path ++ net_bit_text b.net (range_at d b) b.place

-- a pin of a box is named by its port, and the index where the port has a range
abbrev pub pin_text : Design → Bit → List ℕ
pin_text d b = net_bit_text b.net (range_at d b) b.place
