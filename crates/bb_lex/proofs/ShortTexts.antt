-- Texts too short for a pair of bytes.
use Rattle.std.proofs.Common.{◌≡◌, ℕ, ◌<◌, None, List, [], ◌∷◌, length, refl, arith}
use Rattle.bb_lex.specs.Inside.Skips.{after_pair, after_close}

pub after_pair-short : (x y : ℕ) (t : List ℕ) → length t < 2 → after_pair x y t ≡ None
after_pair-short x y [] short = refl
after_pair-short x y (b ∷ []) short = refl
after_pair-short x y (b ∷ c ∷ t) short = absurd (omega arith)

pub after_close-short : (t : List ℕ) → length t < 2 → after_close t ≡ None
after_close-short [] short = refl
after_close-short (b ∷ []) short = refl
after_close-short (b ∷ c ∷ t) short = absurd (omega arith)

pub ruleset short_texts = (after_pair-short, after_close-short)
