-- What is answered in the end.
use Rattle.std.proofs.Common.{◌≡◌, ◌⊎◌, inl, inr, ℕ, ◌-◌, ◌^◌, ◌<◌, ◌≤◌, List, length, ap, arith}
use Rattle.std.specs.Prelude.{Option, Some, None, IfSome}
use Rattle.bb_bits.specs.Tables.{TableBits}
use Rattle.bb_lemmas.proofs.Orders.{less_or_not}
use Rattle.bb_net.specs.Flats.{FlatNet}
use Rattle.bb_fill.specs.Clashes.{AreNamesApart}
use Rattle.bb_fill.specs.Sizes.{net_count}
use Rattle.bb_fill.specs.Filled.{filled_text}
use Rattle.bb_fill.specs.Answers.{Answer, IsFilled, IsFillAnswer, Text}
use Rattle.bb_fill.specs.Laws.{AnswersAreOne}
use Rattle.bb_fill.proofs.SizeLemmas.{cells_few}

pub filled : (f : FlatNet) (tables : List TableBits) (text : List ℕ) (nets bytes : ℕ) → AreNamesApart f → nets ≡ net_count f tables → nets ≤ 1000000
    → (length (filled_text f tables) < 2 ^ 64 → bytes ≡ length (filled_text f tables)) → (2 ^ 64 ≤ length (filled_text f tables) → 2 ^ 64 - 1 ≤ bytes) → bytes ≤ 33554432
    → text ≡ filled_text f tables → IsFillAnswer f tables (Text text)
filled f tables text nets bytes apart counted few exact full small is = IsFilled apart (record { bytes = by (less_or_not (length (filled_text f tables)) (2 ^ 64)); nets = omega (arith, counted, few); cells = omega (arith, counted, few, cells_few f tables) }) (ap Text is)
  where
    by : (length (filled_text f tables) < 2 ^ 64) ⊎ (2 ^ 64 ≤ length (filled_text f tables)) → length (filled_text f tables) ≤ 33554432
    by (inl h) = omega (arith, exact h, small)
    by (inr h) = absurd (omega (arith, full h, small))

-- what may be answered is what is given
pub due : AnswersAreOne → (f : FlatNet) (tables : List TableBits) (given : Option Answer) → IfSome given (IsFillAnswer f tables) → (answer : Answer) → IsFillAnswer f tables answer → IfSome given (λ a. a ≡ answer)
due one f tables (Some a) may answer other = one f tables a answer may other
due one f tables None may answer other = tt
