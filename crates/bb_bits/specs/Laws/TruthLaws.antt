-- What a reader expects of truth tables, quantified variables, beads and the sizes of sets.
use Rattle.std.specs.Prelude.{◌≡◌, ◌≢◌, ◌<◌, ◌≤◌, ◌↔◌, ◌⊎◌, ℕ, suc, ◌+◌, ◌^◌, Bool, true, false, ◌&&◌, ◌||◌, List, ◌∷◌, ◌++◌, length, All, Contains, slice_index_or, slice_set}
use Rattle.bb_bits.specs.Truth.{Truth, Halves, IsTruthTable, truth_bits, truth_at, lifted, constant, variable, combined, joined_tables, quantified, quantified_block, IsBead, IsBeadOf, IsBeadOfAny, IsAlignedBead}
use Rattle.bb_bits.specs.TruthSets.{AreDistinct, HasSize, HasMoreThan, HasAtMost}

-- tables, their lists of bits, and their bits at points
pub record TableLaws : Type 0 where
  -- a table of v variables has 2^v bits; each list of 2^v bits is the list of one table, and of no other
  pub length_is_power : (v : ℕ) (t : Truth) → IsTruthTable v t → length (truth_bits t) ≡ 2 ^ v
  pub bits_have_table : (v : ℕ) (bits : List Bool) → length bits ≡ 2 ^ v → (t : Truth) × IsTruthTable v t × (truth_bits t ≡ bits)
  pub bits_fix_table : (v : ℕ) (t u : Truth) → IsTruthTable v t → IsTruthTable v u → truth_bits t ≡ truth_bits u → t ≡ u
  -- tables with the same bit at every point are equal
  pub points_fix_table : (v : ℕ) (t u : Truth) → IsTruthTable v t → IsTruthTable v u →
      ((point : List Bool) → length point ≡ v → truth_at t point ≡ truth_at u point) → t ≡ u
  -- what the operations make are tables
  pub lifted_size : (k v : ℕ) (t : Truth) → IsTruthTable v t → IsTruthTable (k + v) (lifted k t)
  pub constant_size : (n : ℕ) (b : Bool) → IsTruthTable n (constant n b)
  pub variable_size : (n v : ℕ) → v < n → IsTruthTable n (variable n v)
  pub combined_size : (v : ℕ) (op : Bool → Bool → Bool → Bool) (t u w : Truth) → IsTruthTable v t → IsTruthTable v u → IsTruthTable v w → IsTruthTable v (combined op t u w)
  pub quantified_size : (n v : ℕ) (op : Bool → Bool → Bool) (t : Truth) → IsTruthTable n t → IsTruthTable n (quantified op v t)
  -- a constant table has its bit at each point, the table of a variable that variable's value, a combined table the operation
  -- of the bits there
  pub constant_at_point : (n : ℕ) (b : Bool) (point : List Bool) → length point ≡ n → truth_at (constant n b) point ≡ b
  pub variable_at_point : (n v : ℕ) (point : List Bool) → v < n → length point ≡ n → truth_at (variable n v) point ≡ slice_index_or point v false
  pub combined_at_point : (v : ℕ) (op : Bool → Bool → Bool → Bool) (t u w : Truth) (point : List Bool) → IsTruthTable v t → IsTruthTable v u → IsTruthTable v w → length point ≡ v →
      truth_at (combined op t u w) point ≡ op (truth_at t point) (truth_at u point) (truth_at w point)
  -- variables before the first, on which nothing depends
  pub lifted_once_more : (k : ℕ) (t : Truth) → lifted (suc k) t ≡ lifted k (Halves t t)
  pub lifted_at_point : (k : ℕ) (t : Truth) (x y : List Bool) → length x ≡ k → truth_at (lifted k t) (x ++ y) ≡ truth_at t y
  pub lifted_same : (k : ℕ) (t u : Truth) → lifted k t ≡ lifted k u → t ≡ u
  pub combined_lifted : (k : ℕ) (op : Bool → Bool → Bool → Bool) (t u w : Truth) → combined op (lifted k t) (lifted k u) (lifted k w) ≡ lifted k (combined op t u w)
  pub variable_lifted : (v n : ℕ) → variable (v + suc n) v ≡ lifted v (Halves (constant n false) (constant n true))

-- quantified variables
pub record QuantifierLaws : Type 0 where
  -- a quantified table has at each point the join of the bits for both values of the variable
  pub at_point : (n v : ℕ) (op : Bool → Bool → Bool) (t : Truth) (point : List Bool) → v < n → IsTruthTable n t → length point ≡ n →
      truth_at (quantified op v t) point ≡ op (truth_at t (slice_set point v false)) (truth_at t (slice_set point v true))
  -- a variable before the first on which a table depends, that variable, and a later one; of the last one the halves are
  -- quantified
  pub earlier : (op : Bool → Bool → Bool) → ((b : Bool) → op b b ≡ b) → (k v : ℕ) (t : Truth) → v < k → quantified op v (lifted k t) ≡ lifted k t
  pub here : (op : Bool → Bool → Bool) (v : ℕ) (a b : Truth) → quantified op v (lifted v (Halves a b)) ≡ lifted (suc v) (joined_tables op a b)
  pub later : (op : Bool → Bool → Bool) (k v : ℕ) (t : Truth) → quantified op (k + v) (lifted k t) ≡ lifted k (quantified op v t)
  -- a block of variables quantified by "for all" gives 1 where every list of their values does, and 0 where some list does
  pub all_true : (v k : ℕ) (t : Truth) (x y z : List Bool) → length x ≡ v → length y ≡ k → IsTruthTable (v + (k + length z)) t →
      (truth_at (quantified_block ◌&&◌ v k t) (x ++ (y ++ z)) ≡ true) ↔ ((values : List Bool) → length values ≡ k → truth_at t (x ++ (values ++ z)) ≡ true)
  pub all_false : (v k : ℕ) (t : Truth) (x y z : List Bool) → length x ≡ v → length y ≡ k → IsTruthTable (v + (k + length z)) t →
      (truth_at (quantified_block ◌&&◌ v k t) (x ++ (y ++ z)) ≡ false) ↔ ((values : List Bool) × (length values ≡ k) × (truth_at t (x ++ (values ++ z)) ≡ false))
  -- by "exists" 1 where some list does, and 0 where every list does
  pub some_true : (v k : ℕ) (t : Truth) (x y z : List Bool) → length x ≡ v → length y ≡ k → IsTruthTable (v + (k + length z)) t →
      (truth_at (quantified_block ◌||◌ v k t) (x ++ (y ++ z)) ≡ true) ↔ ((values : List Bool) × (length values ≡ k) × (truth_at t (x ++ (values ++ z)) ≡ true))
  pub some_false : (v k : ℕ) (t : Truth) (x y z : List Bool) → length x ≡ v → length y ≡ k → IsTruthTable (v + (k + length z)) t →
      (truth_at (quantified_block ◌||◌ v k t) (x ++ (y ++ z)) ≡ false) ↔ ((values : List Bool) → length values ≡ k → truth_at t (x ++ (values ++ z)) ≡ false)

-- beads
pub record BeadLaws : Type 0 where
  -- a bead is one of itself; the beads of a table are those of its halves, and itself where the halves differ
  pub self : (b : Truth) → IsBead b → IsBeadOf b b
  pub halves : (b lo hi : Truth) → IsBeadOf b (Halves lo hi) ↔ (((b ≡ Halves lo hi) × (lo ≢ hi)) ⊎ (IsBeadOf b lo ⊎ IsBeadOf b hi))
  -- variables on which nothing depends add no bead
  pub lifted : (k : ℕ) (b t : Truth) → IsBeadOf b (lifted k t) ↔ IsBeadOf b t
  -- the beads of a table are the aligned blocks of its bits whose halves differ, and beads with the same bits are one bead
  pub blocks : (v : ℕ) (t : Truth) (s : List Bool) → IsTruthTable v t → (IsAlignedBead s (truth_bits t) ↔ ((b : Truth) × IsBeadOf b t × (truth_bits b ≡ s)))
  pub bits_fix_bead : (v w : ℕ) (t u b c : Truth) → IsTruthTable v t → IsTruthTable w u → IsBeadOf b t → IsBeadOf c u → truth_bits b ≡ truth_bits c → b ≡ c
  -- the beads of a list are those of its first table and those of the rest
  pub first_and_rest : (t : Truth) (ts : List Truth) (b : Truth) → IsBeadOfAny (t ∷ ts) b ↔ (IsBeadOf b t ⊎ IsBeadOfAny ts b)

-- how many members a set has
pub record SizeLaws : Type 0 where
  -- a list without repetition whose entries are all in another is no longer than that
  pub fewer_entries : (ts us : List Truth) → AreDistinct ts → All (Contains us) ts → length ts ≤ length us
  -- lists without repetition and with the same entries have one length
  pub one_length : (ts us : List Truth) → AreDistinct ts → AreDistinct us → ((t : Truth) → Contains ts t ↔ Contains us t) → length ts ≡ length us
  -- the beads of any list of tables have a size, and one alone
  pub have_size : (ts : List Truth) → (n : ℕ) × HasSize (IsBeadOfAny ts) n
  pub one_size : (ts : List Truth) (m n : ℕ) → HasSize (IsBeadOfAny ts) m → HasSize (IsBeadOfAny ts) n → m ≡ n
  -- they are more than k exactly where the size is above k, and at most k exactly where it is not; never both
  pub more_than : (ts : List Truth) (n k : ℕ) → HasSize (IsBeadOfAny ts) n → (HasMoreThan (IsBeadOfAny ts) k ↔ (k < n))
  pub at_most : (ts : List Truth) (n k : ℕ) → HasSize (IsBeadOfAny ts) n → (HasAtMost (IsBeadOfAny ts) k ↔ (n ≤ k))
  pub not_both : (ts : List Truth) (k : ℕ) → HasMoreThan (IsBeadOfAny ts) k → HasAtMost (IsBeadOfAny ts) k → ⊥
  -- a list with more tables has no fewer beads
  pub more_in_longer : (ts us : List Truth) (k : ℕ) → All (Contains us) ts → HasMoreThan (IsBeadOfAny ts) k → HasMoreThan (IsBeadOfAny us) k
