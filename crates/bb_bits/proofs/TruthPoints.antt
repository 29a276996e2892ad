-- truth tables point by point
use Rattle.std.proofs.Common.{zero-add, suc-add, ◌≡◌, ◌<◌, ℕ, zero, suc, ◌+◌, Bool, true, false, List, [], ◌∷◌, ◌++◌, length, get_or, refl, ap, ap₂, arith}
use Rattle.bb_bits.specs.Truth.{Truth, Bit, Halves, IsTruthTable, truth_at, lifted, combined, variable, constant}

pub points_fix_table : (v : ℕ) (t u : Truth) → IsTruthTable v t → IsTruthTable v u →
    ((point : List Bool) → length point ≡ v → truth_at t point ≡ truth_at u point) → t ≡ u
points_fix_table zero (Bit a) (Bit b) h k e = let x = e [] refl in cc
points_fix_table zero (Bit a) (Halves c d) h k e = absurd k
points_fix_table zero (Halves a b) u h k e = absurd h
points_fix_table (suc v) (Bit a) u h k e = absurd h
points_fix_table (suc v) (Halves a b) (Bit c) h k e = absurd k
points_fix_table (suc v) (Halves a b) (Halves c d) h k e =
    let first = points_fix_table v a c h.0 k.0 (λ point l. e (false ∷ point) (ap suc l)) in
    let second = points_fix_table v b d h.1 k.1 (λ point l. e (true ∷ point) (ap suc l)) in
    cc

pub combined_at_point : (v : ℕ) (op : Bool → Bool → Bool → Bool) (t u w : Truth) (point : List Bool) → IsTruthTable v t → IsTruthTable v u → IsTruthTable v w → length point ≡ v →
    truth_at (combined op t u w) point ≡ op (truth_at t point) (truth_at u point) (truth_at w point)
combined_at_point zero op (Bit a) (Bit b) (Bit c) point h k l e = refl
combined_at_point zero op (Bit a) (Bit b) (Halves c d) point h k l e = absurd l
combined_at_point zero op (Bit a) (Halves b d) w point h k l e = absurd k
combined_at_point zero op (Halves a b) u w point h k l e = absurd h
combined_at_point (suc v) op (Bit a) u w point h k l e = absurd h
combined_at_point (suc v) op (Halves a b) (Bit c) w point h k l e = absurd k
combined_at_point (suc v) op (Halves a b) (Halves c d) (Bit f) point h k l e = absurd l
combined_at_point (suc v) op (Halves a b) (Halves c d) (Halves f g) [] h k l e = absurd (omega (arith, e))
combined_at_point (suc v) op (Halves a b) (Halves c d) (Halves f g) (false ∷ point) h k l e =
    combined_at_point v op a c f point h.0 k.0 l.0 (omega (arith, e))
combined_at_point (suc v) op (Halves a b) (Halves c d) (Halves f g) (true ∷ point) h k l e =
    combined_at_point v op b d g point h.1 k.1 l.1 (omega (arith, e))

-- a combined table is a table of the same variables
pub IsTruthTable-combined : (v : ℕ) (op : Bool → Bool → Bool → Bool) (t u w : Truth) → IsTruthTable v t → IsTruthTable v u → IsTruthTable v w → IsTruthTable v (combined op t u w)
IsTruthTable-combined zero op (Bit a) (Bit b) (Bit c) h k l = tt
IsTruthTable-combined zero op (Bit a) (Bit b) (Halves c d) h k l = absurd l
IsTruthTable-combined zero op (Bit a) (Halves b d) w h k l = absurd k
IsTruthTable-combined zero op (Halves a b) u w h k l = absurd h
IsTruthTable-combined (suc v) op (Bit a) u w h k l = absurd h
IsTruthTable-combined (suc v) op (Halves a b) (Bit c) w h k l = absurd k
IsTruthTable-combined (suc v) op (Halves a b) (Halves c d) (Bit f) h k l = absurd l
IsTruthTable-combined (suc v) op (Halves a b) (Halves c d) (Halves f g) h k l =
    (IsTruthTable-combined v op a c f h.0 k.0 l.0, IsTruthTable-combined v op b d g h.1 k.1 l.1)

-- variables before it, on which nothing depends
pub IsTruthTable-lifted : (k v : ℕ) (t : Truth) → IsTruthTable v t → IsTruthTable (k + v) (lifted k t)
IsTruthTable-lifted zero v t h = rw zero-add h
IsTruthTable-lifted (suc k) v t h = rw suc-add (IsTruthTable-lifted k v t h, IsTruthTable-lifted k v t h)

pub IsTruthTable-constant : (n : ℕ) (b : Bool) → IsTruthTable n (constant n b)
IsTruthTable-constant zero b = tt
IsTruthTable-constant (suc n) b = (IsTruthTable-constant n b, IsTruthTable-constant n b)

pub IsTruthTable-variable : (n v : ℕ) → v < n → IsTruthTable n (variable n v)
IsTruthTable-variable zero v h = absurd (omega (arith, h))
IsTruthTable-variable (suc n) zero h = (IsTruthTable-constant n false, IsTruthTable-constant n true)
IsTruthTable-variable (suc n) (suc v) h = (IsTruthTable-variable n v (omega (arith, h)), IsTruthTable-variable n v (omega (arith, h)))

-- a variable more before it
pub lifted-suc : (k : ℕ) (t : Truth) → lifted (suc k) t ≡ lifted k (Halves t t)
lifted-suc zero t = refl
lifted-suc (suc k) t = let e = lifted-suc k t in ap₂ Halves e e

pub combined-lifted : (k : ℕ) (op : Bool → Bool → Bool → Bool) (t u w : Truth) → combined op (lifted k t) (lifted k u) (lifted k w) ≡ lifted k (combined op t u w)
combined-lifted zero op t u w = refl
combined-lifted (suc k) op t u w = let e = combined-lifted k op t u w in rw e

pub lifted_at_point : (k : ℕ) (t : Truth) (x y : List Bool) → length x ≡ k → truth_at (lifted k t) (x ++ y) ≡ truth_at t y
lifted_at_point zero t [] y e = refl
lifted_at_point zero t (b ∷ x) y e = absurd (omega (arith, e))
lifted_at_point (suc k) t [] y e = absurd (omega (arith, e))
lifted_at_point (suc k) t (false ∷ x) y e = lifted_at_point k t x y (omega (arith, e))
lifted_at_point (suc k) t (true ∷ x) y e = lifted_at_point k t x y (omega (arith, e))

pub lifted_same : (k : ℕ) (t u : Truth) → lifted k t ≡ lifted k u → t ≡ u
lifted_same zero t u e = e
lifted_same (suc k) t u e = let f : lifted k t ≡ lifted k u = cc in lifted_same k t u f

pub lifted-lifted : (j k : ℕ) (t : Truth) → lifted j (lifted k t) ≡ lifted (j + k) t
lifted-lifted zero k t = rw zero-add
lifted-lifted (suc j) k t = rw suc-add (rw (lifted-lifted j k t))

pub variable-lifted : (v n : ℕ) → variable (v + suc n) v ≡ lifted v (Halves (constant n false) (constant n true))
variable-lifted zero n = rw zero-add
variable-lifted (suc v) n = rw suc-add (rw (variable-lifted v n))

-- a constant table has its bit at each point
pub constant_at_point : (n : ℕ) (b : Bool) (point : List Bool) → length point ≡ n → truth_at (constant n b) point ≡ b
constant_at_point zero b point e = refl
constant_at_point (suc n) b [] e = absurd (omega (arith, e))
constant_at_point (suc n) b (false ∷ point) e = constant_at_point n b point (omega (arith, e))
constant_at_point (suc n) b (true ∷ point) e = constant_at_point n b point (omega (arith, e))

pub variable_at_point : (n v : ℕ) (point : List Bool) → v < n → length point ≡ n → truth_at (variable n v) point ≡ get_or point v false
variable_at_point zero v point h e = absurd (omega (arith, h))
variable_at_point (suc n) v [] h e = absurd (omega (arith, e))
variable_at_point (suc n) zero (false ∷ point) h e = constant_at_point n false point (omega (arith, e))
variable_at_point (suc n) zero (true ∷ point) h e = constant_at_point n true point (omega (arith, e))
variable_at_point (suc n) (suc v) (false ∷ point) h e = variable_at_point n v point (omega (arith, h)) (omega (arith, e))
variable_at_point (suc n) (suc v) (true ∷ point) h e = variable_at_point n v point (omega (arith, h)) (omega (arith, e))
