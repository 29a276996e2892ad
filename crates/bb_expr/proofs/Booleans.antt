-- What a test says of its parts.
use Rattle.std.proofs.Common.{◌≡◌, Bool, true, false, ◌||◌, refl}

pub or-true : (a : Bool) → (a || true) ≡ true
or-true true = refl
or-true false = refl
