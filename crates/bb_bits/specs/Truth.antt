-- Truth tables of Boolean functions, and their beads (Knuth, The Art of Computer Programming, volume 4A, section 7.1.4).
-- A table of v variables is the list of 2^v bits of a function, the first variable most significant. It is written here as
-- the tree of its halves: the first half has the first variable 0, the second has it 1. `truth_bits` gives the list back.
-- A subtable is what is left once some of the first variables have a value; a bead is a subtable whose halves differ.
-- Knuth also calls the two single bits beads; here they are none.
use Rattle.std.specs.Prelude.{◌≡◌, ◌≢◌, ◌≤◌, ◌⊎◌, ℕ, zero, suc, ◌+◌, ◌*◌, ◌^◌, Bool, true, false, not, if◌then◌else◌, List, [], ◌∷◌, ◌++◌, length, take, drop, Contains}

-- a bit, or the halves at the first variable
pub data Truth : Type 0 where
  Bit : Bool → Truth
  Halves : Truth → Truth → Truth

-- it is a table of v variables
abbrev pub IsTruthTable : ℕ → Truth → Type 0
IsTruthTable zero (Bit b) = Unit {0}
IsTruthTable zero (Halves lo hi) = ⊥
IsTruthTable (suc v) (Bit b) = ⊥
IsTruthTable (suc v) (Halves lo hi) = IsTruthTable v lo × IsTruthTable v hi

-- the bits of a table, one after another
abbrev pub truth_bits : Truth → List Bool
truth_bits (Bit b) = b ∷ []
truth_bits (Halves lo hi) = truth_bits lo ++ truth_bits hi

-- the bit at a point, which gives each variable a value, the first one first
abbrev pub truth_at : Truth → List Bool → Bool
truth_at (Bit b) point = b
truth_at (Halves lo hi) [] = false
truth_at (Halves lo hi) (x ∷ point) = if x then truth_at hi point else truth_at lo point

-- the table with k more variables before its own, on which nothing depends
abbrev pub lifted : ℕ → Truth → Truth
lifted zero t = t
lifted (suc k) t = Halves (lifted k t) (lifted k t)

-- the table of n variables that is this bit everywhere
abbrev pub constant : ℕ → Bool → Truth
constant n b = lifted n (Bit b)

-- the table of n variables that is the value of the variable v, the first one being 0
abbrev pub variable : ℕ → ℕ → Truth
variable zero v = Bit false
variable (suc n) zero = Halves (constant n false) (constant n true)
variable (suc n) (suc v) = Halves (variable n v) (variable n v)

-- at each point, the operation of the bits that three tables have there
abbrev pub combined : (Bool → Bool → Bool → Bool) → Truth → Truth → Truth → Truth
combined op (Bit a) (Bit b) (Bit c) = Bit (op a b c)
combined op (Halves a0 a1) (Halves b0 b1) (Halves c0 c1) = Halves (combined op a0 b0 c0) (combined op a1 b1 c1)
combined op t u w = t

-- at each point, the operation of the bits that two tables have there
abbrev pub joined_tables : (Bool → Bool → Bool) → Truth → Truth → Truth
joined_tables op t u = combined (λ a b c. op a b) t u t

-- at each point, the other bit
abbrev pub complement_of_table : Truth → Truth
complement_of_table t = combined (λ a b c. not a) t t t

-- if c then t else e, at each point
abbrev pub chosen : Truth → Truth → Truth → Truth
chosen c t e = combined (λ a b d. if a then b else d) c t e

-- the table of the same variables in which both halves at the variable v are their join: "for all" with "and", "exists" with "or"
abbrev pub quantified : (Bool → Bool → Bool) → ℕ → Truth → Truth
quantified op v (Bit b) = Bit b
quantified op zero (Halves lo hi) = Halves (joined_tables op lo hi) (joined_tables op lo hi)
quantified op (suc v) (Halves lo hi) = Halves (quantified op v lo) (quantified op v hi)

-- the same for k variables, from v on, the last one first
abbrev pub quantified_block : (Bool → Bool → Bool) → ℕ → ℕ → Truth → Truth
quantified_block op v zero t = t
quantified_block op v (suc k) t = quantified op v (quantified_block op (suc v) k t)

-- s is the table t, or a half of it, or a half of a half, and so on
abbrev pub IsSubtableOf : Truth → Truth → Type 0
IsSubtableOf s (Bit b) = s ≡ Bit b
IsSubtableOf s (Halves lo hi) = (s ≡ Halves lo hi) ⊎ (IsSubtableOf s lo ⊎ IsSubtableOf s hi)

-- a table whose halves differ
abbrev pub IsBead : Truth → Type 0
IsBead (Bit b) = ⊥
IsBead (Halves lo hi) = lo ≢ hi

-- a subtable of t whose halves differ
abbrev pub IsBeadOf : Truth → Truth → Type 0
IsBeadOf b t = IsSubtableOf b t × IsBead b

-- a bead of one of the tables
abbrev pub IsBeadOfAny : List Truth → Truth → Type 0
IsBeadOfAny ts b = (t : Truth) × Contains ts t × IsBeadOf b t

-- s is a block of 2^(m + 1) bits that begins at a multiple of its length, and its halves differ
pub record IsAlignedBead (s bits : List Bool) : Type 0 where
  pub m : ℕ
  pub k : ℕ
  pub within : (k + 1) * 2 ^ (m + 1) ≤ length bits
  pub block : s ≡ take (2 ^ (m + 1)) (drop (k * 2 ^ (m + 1)) bits)
  pub differs : take (2 ^ m) s ≢ drop (2 ^ m) s
