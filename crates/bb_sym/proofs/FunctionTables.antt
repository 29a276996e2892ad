-- truth tables of functions
use Rattle.std.proofs.Common.{◌≡◌, ◌<◌, ℕ, zero, suc, Bool, true, false, List, [], ◌∷◌, length, refl, ap, ap₂, arith}
use Rattle.bb_bits.specs.Truth.{Bit, Halves, IsTruthTable, truth_at, constant, variable, combined}
use Rattle.bb_net.specs.Values.{bit_of}
use Rattle.bb_sym.specs.Plain.{Function, table}

pub truth_at-table : (n : ℕ) (f : Function) (p : List Bool) → length p ≡ n → truth_at (table n f) p ≡ f p
truth_at-table zero f [] e = refl
truth_at-table zero f (x ∷ p) e = absurd (omega (arith, e))
truth_at-table (suc n) f [] e = absurd (omega (arith, e))
truth_at-table (suc n) f (false ∷ p) e = truth_at-table n (λ x. f (false ∷ x)) p (omega (arith, e))
truth_at-table (suc n) f (true ∷ p) e = truth_at-table n (λ x. f (true ∷ x)) p (omega (arith, e))

pub table_size : (n : ℕ) (f : Function) → IsTruthTable n (table n f)
table_size zero f = tt
table_size (suc n) f = (table_size n (λ x. f (false ∷ x)), table_size n (λ x. f (true ∷ x)))

pub table_same : (n : ℕ) (f g : Function) → ((p : List Bool) → length p ≡ n → f p ≡ g p) → table n f ≡ table n g
table_same zero f g same = ap Bit (same [] refl)
table_same (suc n) f g same =
    ap₂ Halves (table_same n (λ x. f (false ∷ x)) (λ x. g (false ∷ x)) (λ p e. same (false ∷ p) (omega (arith, e))))
    (table_same n (λ x. f (true ∷ x)) (λ x. g (true ∷ x)) (λ p e. same (true ∷ p) (omega (arith, e))))

pub combined-table : (n : ℕ) (op : Bool → Bool → Bool → Bool) (f g h : Function) → combined op (table n f) (table n g) (table n h) ≡ table n (λ x. op (f x) (g x) (h x))
combined-table zero op f g h = refl
combined-table (suc n) op f g h =
    ap₂ Halves (combined-table n op (λ x. f (false ∷ x)) (λ x. g (false ∷ x)) (λ x. h (false ∷ x)))
    (combined-table n op (λ x. f (true ∷ x)) (λ x. g (true ∷ x)) (λ x. h (true ∷ x)))

pub constant-table : (n : ℕ) (b : Bool) → constant n b ≡ table n (λ x. b)
constant-table zero b = refl
constant-table (suc n) b = ap₂ Halves (constant-table n b) (constant-table n b)

pub variable-table : (n v : ℕ) → v < n → variable n v ≡ table n (λ x. bit_of x v)
variable-table zero v l = absurd (omega (arith, l))
variable-table (suc n) zero l = ap₂ Halves (constant-table n false) (constant-table n true)
variable-table (suc n) (suc v) l = let rest = variable-table n v (omega (arith, l)) in ap₂ Halves rest rest
