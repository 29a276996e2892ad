-- The measure of the search. The entries of the trail are digits to the base 3, the first most significant: 2 for an
-- implied literal, 1 for a decision, 0 for a place with no entry. What is left is the difference to the largest number
-- of as many digits as there are variables. So it shrinks with each entry that is added, and also where a decision and
-- all after it give way to an implied literal.
use Rattle.std.specs.Prelude.{ℕ, zero, suc, ◌+◌, ◌*◌, Option, Some, None, List, [], ◌∷◌}
use Rattle.bb_cdcl.specs.declared.trail.Entry.{Entry}

abbrev pub power : ℕ → ℕ
power zero = 1
power (suc n) = 3 * power n

-- a decision leaves as much as the places after it have
abbrev pub left_by : Option ℕ → ℕ → ℕ
left_by None n = power n
left_by (Some r) n = 0

-- with n places
abbrev pub left : ℕ → List Entry → ℕ
left n [] = power n
left zero (e ∷ es) = 0
left (suc n) (e ∷ es) = left_by e.reason n + left n es
