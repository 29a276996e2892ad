-- Elements of a list by their places, counted from 0.
use Rattle.std.specs.Prelude.{◌≡◌, ℕ, ◌+◌, List, map, Some, slice_get}

-- the elements at these places of a list, in order
abbrev pub AreAt : {A : Type 0} → List A → List ℕ → List A → Type 0
AreAt all places xs = map (slice_get all) places ≡ map Some xs

-- numbers counted from another one on
abbrev pub numbers_from : ℕ → List ℕ → List ℕ
numbers_from first bits = map (λ x. first + x) bits
