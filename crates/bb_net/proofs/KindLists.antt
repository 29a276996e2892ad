-- Numbers in the order of their first appearance, and what belongs to the first of each number.
use Rattle.std.proofs.Common.{◌≡◌, ◌≢◌, ℕ, ◌+◌, ◌<◌, ◌≤◌, ◌⊎◌, zero, suc, Bool, true, false, ◌||◌, List, [], ◌∷◌, ◌++◌, length, take, get_or, zip, refl, sym, ap, subst, ◌∙◌, inl, inr, arith, length-append}
use Rattle.std.specs.Prelude.{AllPairs, Contains, ◌==◌, if◌then◌else◌}
use Rattle.std.proofs.lemmas.Bool.{cases_lt, eq-eqb, ne_eqb}
use Rattle.std.proofs.lemmas.List.{append_assoc, get_or_at}
use Rattle.std.proofs.lemmas.List.Elements.{Contains-append_cases, Contains-append_left, Contains-append_right}
use Rattle.std.proofs.lemmas.List.Folds.{list_any-append}
use Rattle.bb_bits.specs.Earlier.{each_from}
use Rattle.bb_net.specs.Kinds.{AreNumberedInOrder, has_kind, representatives}

-- each number is below n, or it is the next one
abbrev pub Rises : ℕ → List ℕ → Type 0
Rises n [] = Unit {0}
Rises n (k ∷ ks) = ((k < n) × Rises n ks) ⊎ ((k ≡ n) × Rises (suc n) ks)

-- what belongs to the first of each new number
abbrev pub fresh : {A : Type 0} (n : ℕ) (ks : List ℕ) → Rises n ks → List A → List A
fresh n [] rises xs = []
fresh n (k ∷ ks) rises [] = []
fresh n (k ∷ ks) (inl old) (x ∷ xs) = fresh n ks old.1 xs
fresh n (k ∷ ks) (inr new) (x ∷ xs) = x ∷ fresh (suc n) ks new.1 xs

-- place a is the first with a number
pub record IsFirstAt (ks : List ℕ) (kind a : ℕ) : Type 0 where
  pub there : a < length ks
  pub is : get_or ks a 0 ≡ kind
  pub first : (b : ℕ) → b < length ks → get_or ks b 0 ≡ kind → a ≤ b

first_tail : (k : ℕ) (ks : List ℕ) (kind a : ℕ) → IsFirstAt (k ∷ ks) kind (suc a) → IsFirstAt ks kind a
first_tail k ks kind a at = record {
  there = omega (arith, at.there);
  is = at.is;
  first = λ b h e. let p = at.first (suc b) (omega (arith, h)) e in omega (arith, p);
}

first_cons : (k : ℕ) (ks : List ℕ) (kind a : ℕ) → (k ≡ kind → ⊥) → IsFirstAt ks kind a → IsFirstAt (k ∷ ks) kind (suc a)
first_cons k ks kind a other at = record {
  there = omega (arith, at.there);
  is = at.is;
  first = later;
}
  where
    later : (b : ℕ) → b < length (k ∷ ks) → get_or (k ∷ ks) b 0 ≡ kind → suc a ≤ b
    later zero h e = absurd (other e)
    later (suc b) h e = let p = at.first b (omega (arith, h)) e in omega (arith, p)

-- each number has its first place
pub fresh_first : {A : Type 0} (n : ℕ) (ks : List ℕ) (rises : Rises n ks) (xs : List A) (j : ℕ) → j < length (fresh n ks rises xs) → (a : ℕ) × IsFirstAt ks (n + j) a
fresh_first n [] rises xs j h = absurd (omega (arith, h))
fresh_first n (k ∷ ks) rises [] j h = absurd (omega (arith, h))
fresh_first n (k ∷ ks) (inl old) (x ∷ xs) j h =
    let r = fresh_first n ks old.1 xs j h in
    (suc r.0, first_cons k ks (n + j) r.0 (λ e. omega (arith, e, old.0)) r.1)
fresh_first n (k ∷ ks) (inr new) (x ∷ xs) zero h = (zero, record { there = omega arith; is = omega (arith, new.0); first = λ b p e. omega arith })
fresh_first n (k ∷ ks) (inr new) (x ∷ xs) (suc j) h =
    let r = fresh_first (suc n) ks new.1 xs j (omega (arith, h)) in
    let e : suc n + j ≡ n + suc j = omega arith in
    (suc r.0, first_cons k ks (n + suc j) r.0 (λ same. omega (arith, same, new.0)) (subst (λ q. IsFirstAt ks q r.0) e r.1))

-- and at that number is what belongs to it
pub fresh_at : {A : Type 0} (n : ℕ) (ks : List ℕ) (rises : Rises n ks) (xs : List A) (d : A) → length xs ≡ length ks → (j a : ℕ) → IsFirstAt ks (n + j) a → get_or (fresh n ks rises xs) j d ≡ get_or xs a d
fresh_at n [] rises xs d len j a at = absurd (omega (arith, at.there))
fresh_at n (k ∷ ks) rises [] d len j a at = absurd (omega (arith, len))
fresh_at n (k ∷ ks) (inl old) (x ∷ xs) d len j zero at = absurd (omega (arith, at.is, old.0))
fresh_at n (k ∷ ks) (inl old) (x ∷ xs) d len j (suc a) at = fresh_at n ks old.1 xs d (omega (arith, len)) j a (first_tail k ks (n + j) a at)
fresh_at n (k ∷ ks) (inr new) (x ∷ xs) d len zero zero at = refl
fresh_at n (k ∷ ks) (inr new) (x ∷ xs) d len (suc j) zero at = absurd (omega (arith, at.is, new.0))
fresh_at n (k ∷ ks) (inr new) (x ∷ xs) d len zero (suc a) at = let p = at.first zero (omega arith) (omega (arith, new.0)) in absurd (omega (arith, p))
fresh_at n (k ∷ ks) (inr new) (x ∷ xs) d len (suc j) (suc a) at =
    let e : n + suc j ≡ suc n + j = omega arith in
    fresh_at (suc n) ks new.1 xs d (omega (arith, len)) j a (subst (λ q. IsFirstAt ks q a) e (first_tail k ks (n + suc j) a at))

-- each number is counted
pub fresh_counts : {A : Type 0} (n : ℕ) (ks : List ℕ) (rises : Rises n ks) (xs : List A) → length xs ≡ length ks → (b j : ℕ) → b < length ks → get_or ks b 0 ≡ n + j → j < length (fresh n ks rises xs)
fresh_counts n [] rises xs len b j h e = absurd (omega (arith, h))
fresh_counts n (k ∷ ks) rises [] len b j h e = absurd (omega (arith, len))
fresh_counts n (k ∷ ks) (inl old) (x ∷ xs) len zero j h e = absurd (omega (arith, e, old.0))
fresh_counts n (k ∷ ks) (inl old) (x ∷ xs) len (suc b) j h e = fresh_counts n ks old.1 xs (omega (arith, len)) b j (omega (arith, h)) e
fresh_counts n (k ∷ ks) (inr new) (x ∷ xs) len b zero h e = omega arith
fresh_counts n (k ∷ ks) (inr new) (x ∷ xs) len zero (suc j) h e = absurd (omega (arith, e, new.0))
fresh_counts n (k ∷ ks) (inr new) (x ∷ xs) len (suc b) (suc j) h e =
    let p = fresh_counts (suc n) ks new.1 xs (omega (arith, len)) b j (omega (arith, h)) (omega (arith, e)) in
    omega (arith, p)

-- lists as long have as many firsts
pub fresh_length : {A B : Type 0} (n : ℕ) (ks : List ℕ) (rises : Rises n ks) (xs : List A) (ys : List B) → length xs ≡ length ys → length (fresh n ks rises xs) ≡ length (fresh n ks rises ys)
fresh_length n [] rises xs ys len = refl
fresh_length n (k ∷ ks) rises [] [] len = refl
fresh_length n (k ∷ ks) rises [] (y ∷ ys) len = absurd (omega (arith, len))
fresh_length n (k ∷ ks) rises (x ∷ xs) [] len = absurd (omega (arith, len))
fresh_length n (k ∷ ks) (inl old) (x ∷ xs) (y ∷ ys) len = fresh_length n ks old.1 xs ys (omega (arith, len))
fresh_length n (k ∷ ks) (inr new) (x ∷ xs) (y ∷ ys) len = ap suc (fresh_length (suc n) ks new.1 xs ys (omega (arith, len)))

-- the numbers below n are those that precede
pub record Knows {A : Type 0} (n : ℕ) (before : List (ℕ × A)) : Type 0 where
  pub old : (k : ℕ) → k < n → has_kind k before ≡ true
  pub new : (k : ℕ) → n ≤ k → has_kind k before ≡ false

push_kind : {A : Type 0} (q k : ℕ) (x : A) (before : List (ℕ × A)) → has_kind q (before ++ (k, x) ∷ []) ≡ (has_kind q before || ((k == q) || false))
push_kind q k x before = list_any-append (λ box. box.0 == q) before ((k, x) ∷ [])

pub or_true : (a b : Bool) → b ≡ true → (a || b) ≡ true
or_true true b e = refl
or_true false b e = e

pub or_false : (a b : Bool) → a ≡ false → b ≡ false → (a || b) ≡ false
or_false true b e f = e
or_false false b e f = f

or_left : (a b : Bool) → a ≡ true → (a || b) ≡ true
or_left true b e = refl
or_left false b e = absurd (grind (arith, e))

knows_old : {A : Type 0} (n k : ℕ) (x : A) (before : List (ℕ × A)) → Knows n before → k < n → Knows n (before ++ (k, x) ∷ [])
knows_old n k x before knows low = record {
  old = λ q h. push_kind q k x before ∙ or_left (has_kind q before) ((k == q) || false) (knows.old q h);
  new = λ q h. push_kind q k x before ∙ or_false (has_kind q before) ((k == q) || false) (knows.new q h) (or_false (k == q) false (ne_eqb k q (λ e. omega (arith, e, low, h))) refl);
}

knows_new : {A : Type 0} (n k : ℕ) (x : A) (before : List (ℕ × A)) → Knows n before → k ≡ n → Knows (suc n) (before ++ (k, x) ∷ [])
knows_new n k x before knows is = record {
  old = λ q h. push_kind q k x before ∙ elim (cases_lt q n) [
    | inl low ↦ or_left (has_kind q before) ((k == q) || false) (knows.old q low)
    | inr high ↦ or_true (has_kind q before) ((k == q) || false) (or_left (k == q) false (eq-eqb k q (omega (arith, is, high, h))))
  ];
  new = λ q h. push_kind q k x before ∙ or_false (has_kind q before) ((k == q) || false) (knows.new q (omega (arith, h))) (or_false (k == q) false (ne_eqb k q (λ e. omega (arith, e, is, h))) refl);
}

knows_none : {A : Type 0} → Knows {A = A} 0 []
knows_none = record { old = λ k h. absurd (omega (arith, h)); new = λ k h. refl }

abbrev pub gives : {A : Type 0} → List (ℕ × A) → ℕ × A → List A
gives before box = if has_kind box.0 before then [] else box.1 ∷ []

from_fresh : {A : Type 0} (n : ℕ) (ks : List ℕ) (rises : Rises n ks) (before : List (ℕ × A)) → Knows n before → (xs : List A) → each_from gives before (zip ks xs) ≡ fresh n ks rises xs
from_fresh n [] rises before knows xs = refl
from_fresh n (k ∷ ks) rises before knows [] = refl
from_fresh n (k ∷ ks) (inl old) before knows (x ∷ xs) =
    ap (λ b. (if b then [] else x ∷ []) ++ each_from gives (before ++ (k, x) ∷ []) (zip ks xs)) (knows.old k old.0)
    ∙ from_fresh n ks old.1 (before ++ (k, x) ∷ []) (knows_old n k x before knows old.0) xs
from_fresh n (k ∷ ks) (inr new) before knows (x ∷ xs) =
    ap (λ b. (if b then [] else x ∷ []) ++ each_from gives (before ++ (k, x) ∷ []) (zip ks xs)) (knows.new k (omega (arith, new.0)))
    ∙ ap (λ ys. x ∷ ys) (from_fresh (suc n) ks new.1 (before ++ (k, x) ∷ []) (knows_new n k x before knows new.0) xs)

pub shown_fresh : {A : Type 0} (ks : List ℕ) (rises : Rises 0 ks) (xs : List A) → representatives ks xs ≡ fresh 0 ks rises xs
shown_fresh ks rises xs = from_fresh 0 ks rises [] knows_none xs

-- numbers in order rise, and numbers that rise are in order
below_next : (n : ℕ) (before ks : List ℕ) (k : ℕ) → AreNumberedInOrder (before ++ k ∷ ks) → ((q : ℕ) → Contains before q → q < n) → (k ≤ n)
below_next n before ks k ordered none = elim (cases_lt n k) [
  | inr low ↦ low
  | inl high ↦
      let is : get_or (before ++ k ∷ ks) (length before) 0 ≡ k = get_or_at before k ks 0 (length before) refl in
      let has = ordered (length before) n (omega (arith, length-append before (k ∷ ks))) (omega (arith, is, high)) in
      let p = none n (subst (λ zs. Contains zs n) (take_prefix before (k ∷ ks)) has) in
      absurd (omega (arith, p))
]
  where
    take_prefix : (xs ys : List ℕ) → take (length xs) (xs ++ ys) ≡ xs
    take_prefix [] ys = refl
    take_prefix (x ∷ xs) ys = ap (λ zs. x ∷ zs) (take_prefix xs ys)

only_one : (k q : ℕ) → Contains (k ∷ []) q → k ≡ q
only_one k q (zero, h, e) = e
only_one k q (suc a, h, e) = absurd (omega (arith, h))

rises_after : (n : ℕ) (before ks : List ℕ) → AreNumberedInOrder (before ++ ks) → ((q : ℕ) → Contains before q → q < n) → Rises n ks
rises_after n before [] ordered none = tt
rises_after n before (k ∷ ks) ordered none =
    let next : AreNumberedInOrder ((before ++ k ∷ []) ++ ks) = subst AreNumberedInOrder (sym (append_assoc before (k ∷ []) ks)) ordered in
    let low = below_next n before ks k ordered none in
    elim (cases_lt k n) [
      | inl old ↦ inl (
        old,
        rises_after n (before ++ k ∷ []) ks next (λ q has. elim (Contains-append_cases before (k ∷ []) q has) [
          | inl there ↦ none q there
          | inr here ↦ omega (arith, only_one k q here, old)
        ]),
      )
      | inr new ↦ inr (
        omega (arith, low, new),
        rises_after (suc n) (before ++ k ∷ []) ks next (λ q has. elim (Contains-append_cases before (k ∷ []) q has) [
          | inl there ↦ let p = none q there in omega (arith, p)
          | inr here ↦ omega (arith, only_one k q here, low)
        ]),
      )
    ]

pub rises_in_order : (ks : List ℕ) → AreNumberedInOrder ks → Rises 0 ks
rises_in_order ks ordered = rises_after 0 [] ks ordered (λ q has. absurd (omega (arith, has.1)))

order_after : (n : ℕ) (before ks : List ℕ) → Rises n ks → ((q : ℕ) → q < n → Contains before q) → (b q : ℕ) → b < length ks → q < get_or ks b 0 → Contains (before ++ take b ks) q
order_after n before [] rises all b q h low = absurd (omega (arith, h))
order_after n before (k ∷ ks) (inl old) all zero q h low = Contains-append_left before [] q (all q (omega (arith, low, old.0)))
order_after n before (k ∷ ks) (inr new) all zero q h low = Contains-append_left before [] q (all q (omega (arith, low, new.0)))
order_after n before (k ∷ ks) (inl old) all (suc b) q h low =
    subst (λ zs. Contains zs q) (append_assoc before (k ∷ []) (take b ks))
    (order_after n (before ++ k ∷ []) ks old.1 (λ p lt. Contains-append_left before (k ∷ []) p (all p lt)) b q (omega (arith, h)) low)
order_after n before (k ∷ ks) (inr new) all (suc b) q h low =
    subst (λ zs. Contains zs q) (append_assoc before (k ∷ []) (take b ks))
    (order_after (suc n) (before ++ k ∷ []) ks new.1 (λ p lt. elim (cases_lt p n) [
      | inl there ↦ Contains-append_left before (k ∷ []) p (all p there)
      | inr here ↦ Contains-append_right before (k ∷ []) p (0, omega arith, omega (arith, here, lt, new.0))
    ]) b q (omega (arith, h)) low)

pub order_rising : (ks : List ℕ) → Rises 0 ks → AreNumberedInOrder ks
order_rising ks rises = order_after 0 [] ks rises (λ q h. absurd (omega (arith, h)))

-- where the numbers all differ they are those after n, and nothing is left out
pub rises_apart : (n : ℕ) (ks : List ℕ) → Rises n ks → AllPairs ◌≢◌ ks → ((b : ℕ) → b < length ks → n ≤ get_or ks b 0) → (b : ℕ) → b < length ks → get_or ks b 0 ≡ n + b
rises_apart n [] rises apart high b h = absurd (omega (arith, h))
rises_apart n (k ∷ ks) (inl old) apart high b h = let p = high zero (omega arith) in absurd (omega (arith, p, old.0))
rises_apart n (k ∷ ks) (inr new) apart high zero h = omega (arith, new.0)
rises_apart n (k ∷ ks) (inr new) apart high (suc b) h =
    let p = rises_apart (suc n) ks new.1 (λ i j d low there. apart (suc i) (suc j) d (omega (arith, low)) (omega (arith, there)))
    (λ a there. let q = high (suc a) (omega (arith, there)) in let other = apart zero (suc a) 0 (omega arith) (omega (arith, there)) in elim (cases_lt n (get_or ks a 0)) [
      | inl less ↦ omega (arith, less)
      | inr more ↦ absurd (other (omega (arith, more, q, new.0)))
    ]) b (omega (arith, h)) in
    omega (arith, p)

pub fresh_apart : {A : Type 0} (n : ℕ) (ks : List ℕ) (rises : Rises n ks) (xs : List A) → length xs ≡ length ks → ((b : ℕ) → b < length ks → get_or ks b 0 ≡ n + b) → fresh n ks rises xs ≡ xs
fresh_apart n [] rises [] len at = refl
fresh_apart n [] rises (x ∷ xs) len at = absurd (omega (arith, len))
fresh_apart n (k ∷ ks) rises [] len at = absurd (omega (arith, len))
fresh_apart n (k ∷ ks) (inl old) (x ∷ xs) len at = let p = at zero (omega arith) in absurd (omega (arith, p, old.0))
fresh_apart n (k ∷ ks) (inr new) (x ∷ xs) len at =
    ap (λ ys. x ∷ ys) (fresh_apart (suc n) ks new.1 xs (omega (arith, len)) (λ b h. let p = at (suc b) (omega (arith, h)) in omega (arith, p)))
