-- When a result needs no new node: whatever bits the diagrams have, the result's bit is that of the operation.
use Rattle.std.specs.Prelude.{◌≡◌, ◌<◌, ◌⊎◌, ℕ, Bool, true, false}

-- r has the operation's bit, whichever bit each diagram has, where 0 is false and 1 is true
abbrev pub Settles : (Bool → Bool → Bool → Bool) → ℕ → ℕ → ℕ → ℕ → Type 0
Settles op f g h r = (bit : ℕ → Bool) → bit 0 ≡ false → bit 1 ≡ true → bit r ≡ op (bit f) (bit g) (bit h)

-- r is a leaf or one of the operands
abbrev pub IsGiven : ℕ → ℕ → ℕ → ℕ → Type 0
IsGiven f g h r = (r < 2) ⊎ ((r ≡ f) ⊎ ((r ≡ g) ⊎ (r ≡ h)))
