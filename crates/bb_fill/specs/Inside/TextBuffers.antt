-- A buffer counts the bytes that are put on it. It keeps them where there is room for all.
use Rattle.std.specs.Prelude.{◌≡◌, ℕ, ◌+◌, ◌-◌, ◌^◌, ◌<◌, ◌≤◌, List, length, ◌++◌}

pub record Writing : Type 0 where
  pub room : ℕ
  pub count : ℕ
  pub text : List ℕ

-- what is on a buffer after bytes were put on it: they are counted up to the last number of 64 bits, and kept where there was room for them
pub record Adds (before after : Writing) (bytes : List ℕ) : Type 0 where
  pub room : after.room ≡ before.room
  pub counted : before.count + length bytes < 2 ^ 64 → after.count ≡ before.count + length bytes
  pub full : 2 ^ 64 ≤ before.count + length bytes → 2 ^ 64 - 1 ≤ after.count
  pub kept : before.room < 2 ^ 32 → before.count + length bytes ≤ before.room → after.text ≡ before.text ++ bytes
