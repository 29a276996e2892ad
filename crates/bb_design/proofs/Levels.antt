-- Where nothing leads back to itself, things have levels that fall along each step.
use Rattle.std.proofs.Common.{◌≡◌, ℕ, ◌+◌, ◌<◌, ◌≤◌, Bool, true, false, if◌then◌else◌, List, [], ◌∷◌, map, Contains, refl, sym, ap, ◌∙◌, inl, inr, arith, true≢false}
use Rattle.std.specs.Prelude.{◌⊎◌}
use Rattle.bb_bits.specs.Closures.{Leads, One, More}
use Rattle.bb_lemmas.proofs.Deciding.{Decision, Decides, decide_leads}
use Rattle.bb_lemmas.proofs.Members.{contains_cases, none_in_nil, contains-map}

abbrev is_reported : {P : Type 0} → Decision P → Bool
is_reported (inl p) = true
is_reported (inr n) = false

reported_true : {P : Type 0} (h : Decision P) → P → is_reported h ≡ true
reported_true (inl q) p = refl
reported_true (inr n) p = absurd (n p)

reported_false : {P : Type 0} (h : Decision P) → (P → ⊥) → is_reported h ≡ false
reported_false (inl q) n = absurd (n q)
reported_false (inr m) n = refl

from_true : {P : Type 0} (h : Decision P) → is_reported h ≡ true → P
from_true (inl p) e = p
from_true (inr n) e = absurd (true≢false (sym e))

-- 1 where it is true
abbrev bit : Bool → ℕ
bit b = if b then 1 else 0

bit-le : (a b : Bool) → (a ≡ true → b ≡ true) → bit a ≤ bit b
bit-le false b h = omega arith
bit-le true true h = omega arith
bit-le true false h = absurd (true≢false (sym (h refl)))

module _ {A : Type 0} where
  abbrev how_many : (A → Bool) → List A → ℕ
  how_many p [] = 0
  how_many p (x ∷ xs) = bit (p x) + how_many p xs

  how_many-le : (p q : A → Bool) (xs : List A) → ((z : A) → p z ≡ true → q z ≡ true) → how_many p xs ≤ how_many q xs
  how_many-le p q [] h = omega arith
  how_many-le p q (x ∷ xs) h = let here = bit-le (p x) (q x) (h x) in let there = how_many-le p q xs h in omega (arith, here, there)

  how_many-lt : (p q : A → Bool) (xs : List A) (y : A) → ((z : A) → p z ≡ true → q z ≡ true) → Contains xs y → p y ≡ false → q y ≡ true → how_many p xs < how_many q xs
  how_many-lt p q [] y h has off on = absurd (none_in_nil y has)
  how_many-lt p q (x ∷ xs) y h has off on = from (contains_cases x xs y has) (λ more. how_many-lt p q xs y h more off on)
    where
      from : (x ≡ y) ⊎ Contains xs y → (Contains xs y → how_many p xs < how_many q xs) → bit (p x) + how_many p xs < bit (q x) + how_many q xs
      from (inl same) rest =
          let a : bit (p x) ≡ 0 = ap (λ z. bit (p z)) same ∙ ap bit off in
          let b : bit (q x) ≡ 1 = ap (λ z. bit (q z)) same ∙ ap bit on in
          let there = how_many-le p q xs h in omega (arith, a, b, there)
      from (inr more) rest = let here = bit-le (p x) (q x) (h x) in let there = rest more in omega (arith, here, there)

module _ {A : Type 0} (same : Decides A) (steps : List (A × A)) where
  reaches : A → A → Bool
  reaches x z = is_reported (decide_leads same steps x z)

  -- how many ends of steps it leads to
  pub level : A → ℕ
  level x = how_many (reaches x) (map (λ s. s.1) steps)

  pub level_falls : (x y : A) → Contains steps (x, y) → (Leads steps y y → ⊥) → level y < level x
  unfolding level reaches
  level_falls x y has none = how_many-lt (reaches y) (reaches x) (map (λ s. s.1) steps) y
      (λ z h. reported_true (decide_leads same steps x z) (More has (from_true (decide_leads same steps y z) h)))
      (contains-map (λ s. s.1) steps (x, y) has) (reported_false (decide_leads same steps y y) none) (reported_true (decide_leads same steps x y) (One has))
