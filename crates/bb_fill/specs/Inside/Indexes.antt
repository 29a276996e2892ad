-- An index of the texts of registers and outputs: a register is found under its text with its number, and an output
-- that has no register's text with the number after the last register.
use Rattle.std.specs.Prelude.{◌≡◌, ◌⊎◌, ℕ, ◌<◌, List, length, Contains, Some, IsSome}
use Rattle.std.specs.Map.{lookup}
use Rattle.bb_bits.specs.Names.{same_name}
use Rattle.bb_net.specs.Flats.{FlatNet}
use Rattle.bb_fill.specs.Clashes.{register_text}

-- what is found under a text in the index, of which so many registers are in it
abbrev pub IsFound : FlatNet → ℕ → List ℕ → ℕ → Type 0
IsFound f count text k = ((k < count) × (text ≡ register_text f k)) ⊎ ((k ≡ length f.regs) × Contains f.outs text)

pub record IsIndexUpTo (f : FlatNet) (count : ℕ) (entries : List (List ℕ × ℕ)) : Type 0 where
  pub registers : (r : ℕ) → r < count → lookup (same_name (register_text f r)) entries ≡ Some r
  pub outputs : (text : List ℕ) → Contains f.outs text → IsSome (lookup (same_name text) entries)
  pub right : (text : List ℕ) (k : ℕ) → lookup (same_name text) entries ≡ Some k → IsFound f count text k

-- all registers are in the index
abbrev pub IsIndex : FlatNet → List (List ℕ × ℕ) → Type 0
IsIndex f entries = IsIndexUpTo f (length f.regs) entries
