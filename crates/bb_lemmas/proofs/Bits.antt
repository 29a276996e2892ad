-- What is known of parts of a disjunction, a conjunction or a negation of bits, and of the whole.
use Rattle.std.proofs.Common.{◌≡◌, ◌≢◌, ◌⊎◌, Bool, true, false, not, ◌&&◌, ◌||◌, ap, refl, sym, ◌∙◌, inl, inr}
use mathlib.Core.Bool.{beq}

-- both
pub and_left : (a b : Bool) → (a && b) ≡ true → a ≡ true
and_left true b h = refl
and_left false b h = h

pub and_right : (a b : Bool) → (a && b) ≡ true → b ≡ true
and_right true b h = h
and_right false b h = cc

pub and_both : (a b : Bool) → (a && b) ≡ true → (a ≡ true) × (b ≡ true)
and_both a b h = (and_left a b h, and_right a b h)

pub both_true : (a b : Bool) → a ≡ true → b ≡ true → (a && b) ≡ true
both_true a b x y = ap (λ c. c && b) x ∙ y

pub and_false : (a b : Bool) → a ≡ false → (a && b) ≡ false
and_false a b e = ap (λ c. c && b) e

-- one of both
pub or_left : (a b : Bool) → a ≡ true → (a || b) ≡ true
or_left a b h = ap (λ c. c || b) h

pub or_right : (a b : Bool) → b ≡ true → (a || b) ≡ true
or_right true b h = refl
or_right false b h = h

pub or_cases : (a b : Bool) → (a || b) ≡ true → (a ≡ true) ⊎ (b ≡ true)
or_cases true b h = inl refl
or_cases false b h = inr h

pub neither_left : (a b : Bool) → (a || b) ≡ false → a ≡ false
neither_left true b h = cc
neither_left false b h = refl

pub neither_right : (a b : Bool) → (a || b) ≡ false → b ≡ false
neither_right true b h = cc
neither_right false b h = h

pub neither : (a b : Bool) → (a || b) ≡ false → (a ≡ false) × (b ≡ false)
neither a b h = (neither_left a b h, neither_right a b h)

pub both_false : (a b : Bool) → a ≡ false → b ≡ false → (a || b) ≡ false
both_false a b x y = ap (λ c. c || b) x ∙ y

pub or_assoc : (a b c : Bool) → ((a || b) || c) ≡ (a || (b || c))
or_assoc true b c = refl
or_assoc false b c = refl

-- one bit
pub not_true : (b : Bool) → (b ≡ true → ⊥) → b ≡ false
not_true true h = absurd (h refl)
not_true false h = refl

pub not_false : (b : Bool) → not b ≡ false → b ≡ true
not_false true h = refl
not_false false h = cc

pub never_both : (b : Bool) → b ≡ true → b ≡ false → ⊥
never_both true is other = cc
never_both false is other = cc

-- two bits
pub same_or_not : (a b : Bool) → (a ≡ b) ⊎ (a ≢ b)
same_or_not true true = inl refl
same_or_not true false = inr (λ e. cc)
same_or_not false true = inr (λ e. cc)
same_or_not false false = inl refl

pub beq_equal : (a b : Bool) → beq a b ≡ true → a ≡ b
beq_equal true true h = refl
beq_equal true false h = sym h
beq_equal false true h = h
beq_equal false false h = refl

pub beq_self : (a : Bool) → beq a a ≡ true
beq_self true = refl
beq_self false = refl
