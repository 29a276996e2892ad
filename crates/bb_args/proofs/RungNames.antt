-- A text that is the name of no check.
use Rattle.std.proofs.Common.{◌≡◌, Bool, true, false, List, [], ◌∷◌, ℕ, None, refl, sym}
use Rattle.std.specs.Prelude.{find}
use Rattle.std.specs.Str.{bytes_eq}
use Rattle.std.proofs.lemmas.Slice.Eq.{bytes_eq-Decides}
use Rattle.bb_options.specs.declared.rung.Rung.{Rung}
use Rattle.bb_options.specs.Rungs.{all_rungs, rung_name}
use Rattle.bb_args.specs.Requests.{rung_named}

other : (name text : List ℕ) → (text ≡ name → ⊥) → bytes_eq name text ≡ false
other name text differ = by (bytes_eq name text) refl
  where
    by : (b : Bool) → bytes_eq name text ≡ b → b ≡ false
    by false e = refl
    by true e = absurd (differ (sym ((bytes_eq-Decides name text).0 e)))

-- the text is the name of none of these
none_of : (text : List ℕ) (rungs : List Rung) → ((r : Rung) → text ≡ rung_name r → ⊥) → find (λ r. bytes_eq (rung_name r) text) rungs ≡ None
none_of text [] differ = refl
none_of text (r ∷ rungs) differ = rw (other (rung_name r) text (differ r)) (none_of text rungs differ)

pub no_rung : (text : List ℕ) → ((r : Rung) → text ≡ rung_name r → ⊥) → rung_named text ≡ None
no_rung text differ = none_of text all_rungs differ
