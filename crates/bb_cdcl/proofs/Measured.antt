-- What is left shrinks.
use Rattle.std.proofs.Common.{◌≡◌, ◌<◌, ◌≤◌, ℕ, zero, suc, Option, Some, None, List, [], ◌∷◌, ◌++◌, length, take, slice_get, ◌∙◌, ap, arith}
use Rattle.bb_cdcl.specs.declared.trail.Entry.{Entry}
use Rattle.bb_cdcl.specs.Inside.Measure.{power, left_by, left}

power_some : (n : ℕ) → 0 < power n
power_some zero = omega arith
power_some (suc n) = let s = power_some n in omega (arith, s)

left_by_most : (o : Option ℕ) (n : ℕ) → left_by o n ≤ power n
left_by_most None n = omega arith
left_by_most (Some r) n = omega arith

left_some : (n : ℕ) (es : List Entry) → length es ≤ n → 0 < left n es
left_some n [] within = power_some n
left_some zero (e ∷ es) within = absurd (omega (arith, within))
left_some (suc n) (e ∷ es) within = let s = left_some n es (omega (arith, within)) in omega (arith, s)

pub left_push : (n : ℕ) (es : List Entry) (e : Entry) → length es < n → left n (es ++ e ∷ []) < left n es
left_push zero es e within = absurd (omega (arith, within))
left_push (suc n) [] e within = let s = power_some n in let m = left_by_most e.reason n in omega (arith, s, m)
left_push (suc n) (x ∷ es) e within = let s = left_push n es e (omega (arith, within)) in omega (arith, s)

decided_left : (o : Option ℕ) (n : ℕ) → o ≡ None → left_by o n ≡ power n
decided_left o n none = ap (λ p. left_by p n) none

implied_left : (o : Option ℕ) (r n : ℕ) → o ≡ Some r → left_by o n ≡ 0
implied_left o r n some = ap (λ p. left_by p n) some

pub left_backjump : (n : ℕ) (es : List Entry) (p : ℕ) (d e : Entry) (r : ℕ) → length es ≤ n → slice_get es p ≡ Some d → d.reason ≡ None → e.reason ≡ Some r
    → left n (take p es ++ e ∷ []) < left n es
left_backjump n [] p d e r within occurs decided implied = absurd (let clash : None ≡ Some d = occurs in cc)
left_backjump zero (x ∷ es) p d e r within occurs decided implied = absurd (omega (arith, within))
left_backjump (suc n) (x ∷ es) zero d e r within occurs decided implied =
    let same : x ≡ d = (let s : Some x ≡ Some d = occurs in cc) in
    let whole = decided_left x.reason n (ap (λ (k : Entry). k.reason) same ∙ decided) in
    let nothing = implied_left e.reason r n implied in
    let s = left_some n es (omega (arith, within)) in
    omega (arith, whole, nothing, s)
left_backjump (suc n) (x ∷ es) (suc p) d e r within occurs decided implied =
    let s = left_backjump n es p d e r (omega (arith, within)) occurs decided implied in omega (arith, s)

-- the trail after a jump back has less left
pub backjump_less : (n m : ℕ) (es new : List Entry) (p : ℕ) (d e : Entry) (r : ℕ) → m ≡ n → new ≡ take p es ++ e ∷ [] → length es ≤ n → slice_get es p ≡ Some d → d.reason ≡ None → e.reason ≡ Some r
    → left m new < left n es
backjump_less n m es new p d e r same is within occurs decided implied = rw (same, is) (left_backjump n es p d e r within occurs decided implied)

-- so has a longer trail
pub push_less : (n m : ℕ) (es new : List Entry) (e : Entry) → m ≡ n → new ≡ es ++ e ∷ [] → length es < n → left m new < left n es
push_less n m es new e same is within = rw (same, is) (left_push n es e within)
