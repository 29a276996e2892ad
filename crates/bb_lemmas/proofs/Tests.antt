-- Tests of numbers, and of what a call or an option is.
use Rattle.std.proofs.Common.{◌≡◌, ◌≤◌, ◌<◌, ◌==◌, ℕ, ◌+◌, true, false, Option, None, Some, Result, Ok, Err, refl, sym, subst, arith}
use Rattle.std.specs.Prelude.{IfErr, IsErrAnd, is_some, nat_le, nat_lt}
use Rattle.std.proofs.lemmas.Bool.Decides.{nat_tests}

pub le_from_test : (a b : ℕ) → nat_le a b ≡ true → a ≤ b
le_from_test a b h = grind (arith, nat_tests, h)

pub le_to_test : (a b : ℕ) → a ≤ b → nat_le a b ≡ true
le_to_test a b h = grind (arith, nat_tests, h)

pub not_lt_from_test : (a b : ℕ) → nat_lt a b ≡ false → b ≤ a
not_lt_from_test a b h = grind (arith, nat_tests, h)

pub lt_to_test : (a b : ℕ) → a < b → nat_lt a b ≡ true
lt_to_test a b h = grind (arith, nat_tests, h)

pub not_lt_to_test : (a b : ℕ) → b ≤ a → nat_lt a b ≡ false
not_lt_to_test a b h = grind (arith, nat_tests, h)

pub number_equal : (m n : ℕ) → (m == n) ≡ true → m ≡ n
number_equal m n h = grind (arith, h)

pub number_self : (n : ℕ) → (n == n) ≡ true
number_self n = grind arith

pub zero_plus : (n : ℕ) → 0 + n ≡ n
zero_plus n = omega arith

pub if_err : {A E : Type 0} (r : Result A E) (P : E → Type 0) (e : E) → IsErrAnd r (λ x. x ≡ e) → P e → IfErr r P
if_err (Ok x) P e same p = tt
if_err (Err x) P e same p = subst P (sym same) p

pub none_of : {A : Type 0} (o : Option A) → is_some o ≡ false → o ≡ None
none_of None h = refl
none_of (Some x) h = cc
