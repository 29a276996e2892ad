-- Heights of modules, round by round, and the first of a list that is tall enough.
use Rattle.std.proofs.Common.{◌≡◌, ◌⊎◌, ◌+◌, ◌<◌, ◌≤◌, ◌||◌, ℕ, zero, suc, Bool, true, false, List, [], ◌∷◌, ◌++◌, All, map, take, length, get_or, refl, sym, ap, ◌∙◌, subst, inl, inr, arith, Vec, Global}
use Rattle.std.specs.Prelude.{max, nat_le, replicate}
use Rattle.std.specs.List.{list_any, slice_index_or}
use Rattle.std.proofs.lemmas.List.{get_or-map, get_or_default, length-map, take_more, map-append}
use Rattle.std.proofs.lemmas.List.Elements.{All-from_get_or}
use Rattle.bb_hier.specs.Inside.Depths.{height_over, is_tall}
use Rattle.bb_lemmas.proofs.Orders.{less_or_same}

height_over-push : (h : ℕ → ℕ) (xs : List ℕ) (k : ℕ) → height_over h (xs ++ k ∷ []) ≡ max (height_over h xs) (h k + 1)
height_over-push h [] k = omega arith
height_over-push h (x ∷ xs) k = ap (max (h x + 1)) (height_over-push h xs k) ∙ omega arith

pub height_more : (heights called : List ℕ) (i now : ℕ) → i < length called → now ≡ max (height_over (λ j. slice_index_or heights j 0) (take i called)) (slice_index_or heights (slice_index_or called i 0) 0 + 1)
    → now ≡ height_over (λ j. slice_index_or heights j 0) (take (i + 1) called)
height_more heights called i now lt is =
    is ∙ sym (ap (height_over (λ j. slice_index_or heights j 0)) (take_more called i 0 lt) ∙ height_over-push (λ j. slice_index_or heights j 0) (take i called) (slice_index_or called i 0))

pub callees_fit : (n : ℕ) (callees : List (Vec ℕ Global)) (i : ℕ) (list : Vec ℕ Global) (called : List ℕ) → All (All (λ k. k < n)) (map (λ list. list.items) callees) → i < length callees → list ≡ get_or callees i list → called ≡ list.items → All (λ k. k < n) called
callees_fit n callees i list called there lt is same =
    let at : get_or (map (λ list. list.items) callees) i [] ≡ called = get_or-map (λ list. list.items) callees i list [] lt ∙ ap (λ list. list.items) (sym is) ∙ sym same in
    subst (All (λ k. k < n)) at (there i [] (omega (arith, lt, length-map callees (λ list. list.items))))

pub heights_more : (f : List ℕ → ℕ) (callees : List (Vec ℕ Global)) (i : ℕ) (list : Vec ℕ Global) (called before now : List ℕ) (height : ℕ) → i < length callees → list ≡ get_or callees i list → called ≡ list.items
    → before ≡ map f (map (λ list. list.items) (take i callees)) → now ≡ before ++ height ∷ [] → height ≡ f called → now ≡ map f (map (λ list. list.items) (take (i + 1) callees))
heights_more f callees i list called before now height lt is same prefix more made =
    let lists : List (List ℕ) = map (λ list. list.items) (take i callees) in
    let taken : map (λ list. list.items) (take (i + 1) callees) ≡ lists ++ called ∷ [] =
    ap (map (λ list. list.items)) (take_more callees i list lt) ∙ map-append (λ list. list.items) (take i callees) (get_or callees i list ∷ []) ∙ ap (λ (x : Vec ℕ Global). lists ++ x.items ∷ []) (sym is)
    ∙ ap (λ xs. lists ++ xs ∷ []) (sym same) in
    more ∙ ap (λ xs. xs ++ height ∷ []) prefix ∙ ap (λ h. map f lists ++ h ∷ []) made ∙ sym (ap (map f) taken ∙ map-append f lists (called ∷ []))

map-at : {A B : Type 0} (f : A → B) (xs : List A) (k : ℕ) (d : A) → get_or (map f xs) k (f d) ≡ f (get_or xs k d)
map-at f [] k d = refl
map-at f (x ∷ xs) zero d = refl
map-at f (x ∷ xs) (suc k) d = map-at f xs k d

none_at : (n k : ℕ) → get_or {A = ℕ} (replicate n 0) k 0 ≡ 0
none_at zero k = refl
none_at (suc n) zero = refl
none_at (suc n) (suc k) = none_at n k

none_tall : (e : ℕ) → nat_le (suc e) 0 ≡ false
none_tall e = grind arith

le-step : (e a b : ℕ) → nat_le (suc e) (max (a + 1) b) ≡ (nat_le e a || nat_le (suc e) b)
le-step e a b = grind arith

-- heights after so many rounds
pub record AreHeights (lists : List (List ℕ)) (n : ℕ) (heights : List ℕ) : Type 0 where
  pub long : length heights ≡ length lists
  pub low : (k : ℕ) → slice_index_or heights k 0 ≤ n
  pub tall : (k d : ℕ) → d ≤ n → nat_le d (slice_index_or heights k 0) ≡ is_tall lists d k

pub no_rounds : (lists : List (List ℕ)) (heights : List ℕ) (n : ℕ) → heights ≡ replicate n 0 → n ≡ length lists → length heights ≡ n → AreHeights lists 0 heights
no_rounds lists heights n is long whole = record { long = whole ∙ long; low = λ k. omega (arith, zeros k); tall = tall }
  where
    zeros : (k : ℕ) → slice_index_or heights k 0 ≡ 0
    zeros k = ap (λ l. get_or l k 0) is ∙ none_at n k

    tall : (k d : ℕ) → d ≤ 0 → nat_le d (slice_index_or heights k 0) ≡ is_tall lists d k
    tall k zero le = grind arith
    tall k (suc d) le = absurd (omega (arith, le))

pub one_round : (lists : List (List ℕ)) (n : ℕ) (heights next : List ℕ) → AreHeights lists n heights → next ≡ map (height_over (λ k. slice_index_or heights k 0)) lists → AreHeights lists (n + 1) next
one_round lists n heights next before is = record {
  long = ap length is ∙ length-map lists (height_over h);
  low = λ k. omega (arith, at k, low (slice_index_or lists k []));
  tall = tall;
}
  where
    h : ℕ → ℕ
    h k = slice_index_or heights k 0

    at : (k : ℕ) → slice_index_or next k 0 ≡ height_over h (slice_index_or lists k [])
    at k = ap (λ l. get_or l k 0) is ∙ map-at (height_over h) lists k []

    low : (called : List ℕ) → height_over h called ≤ n + 1
    low [] = omega arith
    low (k ∷ called) = omega (arith, low called, before.low k)

    some : (e : ℕ) → e ≤ n → (called : List ℕ) → nat_le (suc e) (height_over h called) ≡ list_any (is_tall lists e) called
    some e le [] = none_tall e
    some e le (k ∷ called) = le-step e (h k) (height_over h called) ∙ ap (λ b. b || nat_le (suc e) (height_over h called)) (before.tall k e le) ∙ ap (λ b. is_tall lists e k || b) (some e le called)

    tall : (k d : ℕ) → d ≤ n + 1 → nat_le d (slice_index_or next k 0) ≡ is_tall lists d k
    tall k zero le = grind arith
    tall k (suc e) le = ap (nat_le (suc e)) (at k) ∙ some e (omega (arith, le)) (slice_index_or lists k [])

pub low_heights : (lists : List (List ℕ)) (n : ℕ) (heights : List ℕ) → AreHeights lists n heights → n < 64 → All (λ h. h < 64) heights
low_heights lists n heights are lt = All-from_get_or (λ h. h < 64) heights 0 (λ k within. omega (arith, are.low k, lt))

-- the first that is tall enough

pub last_tall : (p : ℕ → Bool) (called : List ℕ) (k : ℕ) → list_any p called ≡ true → k < length called → length called ≤ k + 1 → ((j : ℕ) → j < k → p (slice_index_or called j 0) ≡ false) → p (slice_index_or called k 0) ≡ true
last_tall p [] k some lt last before = absurd (omega (arith, lt))
last_tall p (x ∷ []) zero some lt last before = either (p x) some
  where
    either : (b : Bool) → (b || false) ≡ true → b ≡ true
    either true e = refl
    either false e = e
last_tall p (x ∷ []) (suc k) some lt last before = absurd (omega (arith, lt))
last_tall p (x ∷ y ∷ called) zero some lt last before = absurd (omega (arith, last))
last_tall p (x ∷ y ∷ called) (suc k) some lt last before =
    last_tall p (y ∷ called) k (subst (λ b. (b || list_any p (y ∷ called)) ≡ true) (before 0 (omega arith)) some) (omega (arith, lt)) (omega (arith, last)) (λ j small. before (suc j) (omega (arith, small)))

pub not_yet : (p : ℕ → Bool) (called : List ℕ) (k : ℕ) → ((j : ℕ) → j < k → p (slice_index_or called j 0) ≡ false) → p (slice_index_or called k 0) ≡ false → (j : ℕ) → j < k + 1 → p (slice_index_or called j 0) ≡ false
not_yet p called k before here j lt = by (less_or_same j k)
  where
    by : (j < k) ⊎ ((k < j) ⊎ (j ≡ k)) → p (slice_index_or called j 0) ≡ false
    by (inl h) = before j h
    by (inr (inl h)) = absurd (omega (arith, lt, h))
    by (inr (inr h)) = ap (λ i. p (slice_index_or called i 0)) h ∙ here

pub low_here : (heights : List ℕ) (k now : ℕ) → now ≡ get_or heights k now → k < length heights → now < 64 → nat_le 64 (slice_index_or heights k 0) ≡ false
low_here heights k now at within low =
    let is : slice_index_or heights k 0 ≡ now = get_or_default heights k 0 now within ∙ sym at in
    let lt : slice_index_or heights k 0 < 64 = omega (arith, is, low) in
    grind (arith, lt)
