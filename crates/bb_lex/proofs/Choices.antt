-- Cases on tests, which the lemmas on readings share.
use Rattle.std.proofs.Common.{◌≡◌, Bool, true, false, cond, ◌⊎◌, inl, inr, refl, MatchBool}
use Rattle.std.proofs.Common.{ℕ, List, [], ◌∷◌, Option, Some, None, ap}
use Rattle.std.specs.List.{list_all}
use Rattle.bb_lex.specs.Bytes.{Each}
use Rattle.std.specs.Prelude.{not, ◌||◌, ◌&&◌}

pub cases_of : (b : Bool) → (b ≡ true) ⊎ (b ≡ false)
cases_of true = inl refl
cases_of false = inr refl

-- which way a choice went
pub chosen : {X : Type 0} (b : Bool) (x y z : X) → cond b x y ≡ z → ((b ≡ true) × (x ≡ z)) ⊎ ((b ≡ false) × (y ≡ z))
chosen true x y z h = inl (refl, h)
chosen false x y z h = inr (refl, h)

pub from_match : (b : Bool) (P Q : Type 0) → MatchBool b P Q → ((b ≡ true) × P) ⊎ ((b ≡ false) × Q)
from_match true P Q h = inl (refl, h)
from_match false P Q h = inr (refl, h)

pub match_true : (b : Bool) (P Q : Type 0) → b ≡ true → P → MatchBool b P Q
match_true true P Q e h = h
match_true false P Q e h = absurd (cc)

pub match_false : (b : Bool) (P Q : Type 0) → b ≡ false → Q → MatchBool b P Q
match_false true P Q e h = absurd (cc)
match_false false P Q e h = h

pub cond_true : {X : Type 0} (b : Bool) (x y : X) → b ≡ true → cond b x y ≡ x
cond_true true x y e = refl
cond_true false x y e = absurd (cc)

pub cond_false : {X : Type 0} (b : Bool) (x y : X) → b ≡ false → cond b x y ≡ y
cond_false true x y e = absurd (cc)
cond_false false x y e = refl

-- where a fact by cases on a test gives what the choice by that test is
pub by_match : {X : Type 0} (b : Bool) (P Q : Type 0) (x y z : X) → MatchBool b P Q → (P → x ≡ z) → (Q → y ≡ z) → cond b x y ≡ z
by_match true P Q x y z h f g = f h
by_match false P Q x y z h f g = g h

pub from_not : (b : Bool) → not b ≡ false → b ≡ true
from_not true h = refl
from_not false h = absurd (cc)

pub to_not : (b : Bool) → b ≡ true → not b ≡ false
to_not true h = refl
to_not false h = absurd (cc)

pub or_false : (a b : Bool) → a ≡ false → b ≡ false → (a || b) ≡ false
or_false true b h k = absurd (cc)
or_false false b h k = k

pub left_false : (a b : Bool) → (a || b) ≡ false → a ≡ false
left_false true b h = absurd (cc)
left_false false b h = refl

pub right_false : (a b : Bool) → (a || b) ≡ false → b ≡ false
right_false true b h = absurd (cc)
right_false false b h = h

pub and_false : (a b : Bool) → b ≡ false → (a && b) ≡ false
and_false true b h = h
and_false false b h = refl

pub false_and : (a b : Bool) → a ≡ false → (a && b) ≡ false
false_and true b h = absurd (cc)
false_and false b h = refl

pub left_true : (a b : Bool) → (a && b) ≡ true → a ≡ true
left_true true b h = refl
left_true false b h = absurd (cc)

pub right_true : (a b : Bool) → (a && b) ≡ true → b ≡ true
right_true true b h = h
right_true false b h = absurd (cc)

pub both_true : (a b : Bool) → a ≡ true → b ≡ true → (a && b) ≡ true
both_true true b h k = k
both_true false b h k = absurd (cc)

pub or_cases : (a b : Bool) → (a || b) ≡ true → (a ≡ true) ⊎ (b ≡ true)
or_cases true b h = inl refl
or_cases false b h = inr h

-- a class of bytes as a test of the whole list
pub each_from_test : (p : ℕ → Bool) (xs : List ℕ) → list_all p xs ≡ true → Each p xs
each_from_test p [] h = tt
each_from_test p (x ∷ xs) h = (left_true (p x) (list_all p xs) h, each_from_test p xs (right_true (p x) (list_all p xs) h))

pub test_from_each : (p : ℕ → Bool) (xs : List ℕ) → Each p xs → list_all p xs ≡ true
test_from_each p [] h = refl
test_from_each p (x ∷ xs) h = both_true (p x) (list_all p xs) h.0 (test_from_each p xs h.1)

-- two pairs that were found are one
pub some_pair : {A B : Type 0} (a c : A) (b d : B) → ◌≡◌ {A = Option (A × B)} (Some (a, b)) (Some (c, d)) → (a ≡ c) × (b ≡ d)
some_pair {A} {B} a c b d h =
    let p : Option (A × B) → A = λ o. elim o as (λ _. A) [ Some x ↦ x.0 | None ↦ a ] in
    let q : Option (A × B) → B = λ o. elim o as (λ _. B) [ Some x ↦ x.1 | None ↦ b ] in
    (ap p h, ap q h)
