-- A stream that bytes are written to, as standard output: the bytes that it holds, where they are known, and the count
-- of failed writes.
use Rattle.std.specs.Prelude.{ℕ, List, Option}

pub record StreamState : Type 0 where
  pub held : Option (List ℕ)
  pub faults : ℕ
