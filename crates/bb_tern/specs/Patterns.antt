-- The patterns of a simulation, for so many inputs: all 0; all 1; each input alone 1, in order; each alone 0; and then
-- drawn ones. They are drawn bit by bit by a shift register of 64 bits (Marsaglia, Xorshift RNGs, 2003, with the shifts
-- 13, 7 and 17), which goes on over all of them.
use Rattle.std.specs.Prelude.{◌≡◌, ℕ, zero, suc, ◌*◌, ◌/◌, ◌%◌, ◌^◌, Bool, true, false, nat_le, List, ◌∷◌, ◌++◌, map, replicate, slice_set, length, All, bit_xor}
use Rattle.std.specs.List.{range_with_len}

-- the next state: three shifts, each within 64 bits
abbrev pub shifted_left : ℕ → ℕ → ℕ
shifted_left k s = bit_xor s (s * 2 ^ k % 2 ^ 64)

abbrev pub shifted_right : ℕ → ℕ → ℕ
shifted_right k s = bit_xor s (s / 2 ^ k)

abbrev pub next_state : ℕ → ℕ
next_state s = shifted_left 17 (shifted_right 7 (shifted_left 13 s))

-- the state after n steps from the seed
abbrev pub state_after : ℕ → ℕ → ℕ
state_after seed zero = seed
state_after seed (suc n) = next_state (state_after seed n)

-- what is drawn is the highest bit of a state
abbrev pub drawn_bit : ℕ → ℕ → Bool
drawn_bit seed n = nat_le (2 ^ 63) (state_after seed (suc n))

-- drawn pattern k: the bits that follow those of the patterns before it
abbrev pub drawn_pattern : ℕ → ℕ → ℕ → List Bool
drawn_pattern inputs seed k = map (drawn_bit seed) (range_with_len (k * inputs) inputs)

-- input i has one bit, and all others the other
abbrev pub one_against_all : ℕ → Bool → Bool → ℕ → List Bool
one_against_all inputs bit rest i = slice_set (replicate inputs rest) i bit

-- the whole list
abbrev pub patterns : ℕ → ℕ → ℕ → List (List Bool)
patterns inputs drawn seed =
    replicate inputs false ∷ replicate inputs true ∷
    map (one_against_all inputs true false) (range_with_len 0 inputs) ++ (map (one_against_all inputs false true) (range_with_len 0 inputs) ++ map (drawn_pattern inputs seed) (range_with_len 0 drawn))

-- each has a bit for each input
abbrev pub PatternsAreVectors : Type 0
PatternsAreVectors = (inputs drawn seed : ℕ) → All (λ x. length x ≡ inputs) (patterns inputs drawn seed)
