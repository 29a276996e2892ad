-- What can be reported of finite lists: whether something is in them, whether steps lead from one thing to another, and which
-- element is the first of a kind.
use Rattle.std.proofs.Common.{◌++◌, ◌<◌, ◌↔◌, ◌∙◌, ◌∷◌, ◌≡◌, ◌≢◌, ◌⊎◌, AllPairs, Contains, List, [], ap, append-nil, append_assoc, ap₂, arith, get_or, inl, inr, length, refl, subst, suc, sym, zero, ℕ}
use Rattle.std.proofs.lemmas.List.{get_or_default}
use Rattle.std.proofs.lemmas.List.Quantifiers.{all_pairs_push}
use Rattle.bb_bits.specs.Closures.{IsFirst, IsFirstRepeat, Leads, More, One}
use Rattle.bb_lemmas.proofs.Members.{contains_cases, contains_here, contains_there, none_in_nil}
use Rattle.bb_lemmas.proofs.Orders.{less_or_same}
use Rattle.bb_lemmas.proofs.Walks.{append, more_after}

-- it holds, or it does not
abbrev pub Decision : Type 0 → Type 0
Decision P = P ⊎ (P → ⊥)

-- equality can be reported
abbrev pub Decides : Type 0 → Type 0
Decides A = (x y : A) → Decision (x ≡ y)

pub decide_number : Decides ℕ
decide_number m n = from (less_or_same m n)
  where
    from : (m < n) ⊎ ((n < m) ⊎ (m ≡ n)) → Decision (m ≡ n)
    from (inl h) = inr (λ e. omega (arith, h, e))
    from (inr (inl h)) = inr (λ e. omega (arith, h, e))
    from (inr (inr h)) = inl h

pub decide_both : {P Q : Type 0} → Decision P → Decision Q → Decision (P × Q)
decide_both (inl p) (inl q) = inl (p, q)
decide_both (inl p) (inr n) = inr (λ h. n h.1)
decide_both (inr n) q = inr (λ h. n h.0)

pub neither : {P Q : Type 0} → (P → ⊥) → (Q → ⊥) → P ⊎ Q → ⊥
neither n m (inl p) = n p
neither n m (inr q) = m q

pub decide_either : {P Q : Type 0} → Decision P → Decision Q → Decision (P ⊎ Q)
decide_either (inl p) q = inl (inl p)
decide_either (inr n) (inl q) = inl (inr q)
decide_either (inr n) (inr m) = inr (neither n m)

pub decide_same : {P Q : Type 0} → P ↔ Q → Decision P → Decision Q
decide_same h (inl p) = inl (h.0 p)
decide_same h (inr n) = inr (λ q. n (h.1 q))

module _ {A : Type 0} (same : Decides A) where
  pub decide_list : Decides (List A)
  decide_list [] [] = inl refl
  decide_list [] (y ∷ ys) = inr (λ e. grind (arith, e))
  decide_list (x ∷ xs) [] = inr (λ e. grind (arith, e))
  decide_list (x ∷ xs) (y ∷ ys) = from (same x y) (decide_list xs ys)
    where
      from : Decision (x ≡ y) → Decision (xs ≡ ys) → Decision (x ∷ xs ≡ y ∷ ys)
      from (inl h) (inl rest) = inl (ap₂ ◌∷◌ h rest)
      from (inl h) (inr rest) = inr (λ e. rest (grind (arith, e)))
      from (inr h) rest = inr (λ e. h (ap (λ l. get_or l 0 x) e))

  pub decide_contains : (xs : List A) (x : A) → Decision (Contains xs x)
  decide_contains [] x = inr (none_in_nil x)
  decide_contains (y ∷ ys) x = from (same y x) (decide_contains ys x)
    where
      from : Decision (y ≡ x) → Decision (Contains ys x) → Decision (Contains (y ∷ ys) x)
      from (inl e) rest = inl (subst (Contains (y ∷ ys)) e (contains_here y ys))
      from (inr n) (inl has) = inl (contains_there y ys x has)
      from (inr n) (inr m) = inr (λ h. neither n m (contains_cases y ys x h))

  pub nowhere : {x y : A} → Leads [] x y → ⊥
  nowhere (One has) = none_in_nil _ has
  nowhere (More has rest) = none_in_nil _ has

  pub weaken : (steps : List (A × A)) (e : A × A) {x y : A} → Leads steps x y → Leads (e ∷ steps) x y
  weaken steps e (One has) = One (contains_there e steps _ has)
  weaken steps e (More has rest) = More (contains_there e steps _ has) (weaken steps e rest)

  -- with one more step, what it leads round
  abbrev pub Around : List (A × A) → A × A → A → A → Type 0
  Around steps e x y = ((x ≡ e.0) ⊎ Leads steps x e.0) × ((e.1 ≡ y) ⊎ Leads steps e.1 y)

  pub to_begin : (steps : List (A × A)) (e : A × A) (x y : A) → Contains steps (x, y) → (y ≡ e.0) ⊎ Leads steps y e.0 → Leads steps x e.0
  to_begin steps e x y has (inl same) = One (subst (λ z. Contains steps (x, z)) same has)
  to_begin steps e x y has (inr rest) = More has rest

  pub split_one : (steps : List (A × A)) (e : A × A) (x y : A) → (e ≡ (x, y)) ⊎ Contains steps (x, y) → Leads steps x y ⊎ Around steps e x y
  split_one steps e x y (inl same) = inr (inl (sym (ap (λ z. z.0) same)), inl (ap (λ z. z.1) same))
  split_one steps e x y (inr has) = inl (One has)

  pub split_more : (steps : List (A × A)) (e : A × A) (x y z : A) → (e ≡ (x, y)) ⊎ Contains steps (x, y) → Leads steps y z ⊎ Around steps e y z → Leads steps x z ⊎ Around steps e x z
  split_more steps e x y z (inl same) (inl rest) = inr (inl (sym (ap (λ w. w.0) same)), inr (subst (λ w. Leads steps w z) (sym (ap (λ w. w.1) same)) rest))
  split_more steps e x y z (inl same) (inr round) = inr (inl (sym (ap (λ w. w.0) same)), round.1)
  split_more steps e x y z (inr has) (inl rest) = inl (More has rest)
  split_more steps e x y z (inr has) (inr round) = inr (inr (to_begin steps e x y has round.0), round.1)

  pub split : (steps : List (A × A)) (e : A × A) {x y : A} → Leads (e ∷ steps) x y → Leads steps x y ⊎ Around steps e x y
  split steps e (One has) = split_one steps e _ _ (contains_cases e steps _ has)
  split steps e (More has rest) = split_more steps e _ _ _ (contains_cases e steps _ has) (split steps e rest)

  pub round_begin : (steps : List (A × A)) (e : A × A) (x : A) → (x ≡ e.0) ⊎ Leads steps x e.0 → Leads (e ∷ steps) x e.1
  round_begin steps e x (inl same) = subst (λ z. Leads (e ∷ steps) z e.1) (sym same) (One (contains_here e steps))
  round_begin steps e x (inr leads) = more_after (e ∷ steps) (weaken steps e leads) (contains_here e steps)

  pub round_end : (steps : List (A × A)) (e : A × A) (x y : A) → Leads (e ∷ steps) x e.1 → (e.1 ≡ y) ⊎ Leads steps e.1 y → Leads (e ∷ steps) x y
  round_end steps e x y first (inl same) = subst (Leads (e ∷ steps) x) same first
  round_end steps e x y first (inr leads) = append (e ∷ steps) first (weaken steps e leads)

  pub join : (steps : List (A × A)) (e : A × A) (x y : A) → Leads steps x y ⊎ Around steps e x y → Leads (e ∷ steps) x y
  join steps e x y (inl leads) = weaken steps e leads
  join steps e x y (inr round) = round_end steps e x y (round_begin steps e x round.0) round.1

  pub decide_leads : (steps : List (A × A)) (x y : A) → Decision (Leads steps x y)
  decide_leads [] x y = inr nowhere
  decide_leads (e ∷ steps) x y = decide_same (join steps e x y, split steps e)
      (decide_either (decide_leads steps x y) (decide_both (decide_either (same x e.0) (decide_leads steps x e.0)) (decide_either (same e.1 y) (decide_leads steps e.1 y))))

  -- the first that is there already
  pub repeat_after : (before xs : List A) → AllPairs ◌≢◌ before → AllPairs ◌≢◌ (before ++ xs) ⊎ ((x : A) × IsFirstRepeat (before ++ xs) x)
  repeat_after before [] apart = inl (subst (AllPairs ◌≢◌) (sym (append-nil before)) apart)
  repeat_after before (y ∷ ys) apart = from (decide_contains before y) (repeat_after (before ++ y ∷ []) ys)
    where
      from : Decision (Contains before y) → (AllPairs ◌≢◌ (before ++ y ∷ []) → AllPairs ◌≢◌ ((before ++ y ∷ []) ++ ys) ⊎ ((x : A) × IsFirstRepeat ((before ++ y ∷ []) ++ ys) x))
          → AllPairs ◌≢◌ (before ++ y ∷ ys) ⊎ ((x : A) × IsFirstRepeat (before ++ y ∷ ys) x)
      from (inl has) rest = inr (y, record { before = before; after = ys; occurs = refl; again = has; earlier = apart })
      from (inr n) rest = subst (λ l. AllPairs ◌≢◌ l ⊎ ((x : A) × IsFirstRepeat l x)) (append_assoc before (y ∷ []) ys)
          (rest (all_pairs_push ◌≢◌ before y apart (λ k d lt e. n (k, lt, get_or_default before k y d lt ∙ e))))

  pub repeat_or_apart : (xs : List A) → AllPairs ◌≢◌ xs ⊎ ((x : A) × IsFirstRepeat xs x)
  repeat_or_apart xs = repeat_after [] xs (λ i j d less within. absurd (omega (arith, within)))

  -- it is at two places
  abbrev pub OccursTwice : List A → A → Type 0
  OccursTwice xs b = (i j : ℕ) × (i < j) × (j < length xs) × (get_or xs i b ≡ b) × (get_or xs j b ≡ b)

  pub twice_after : (y : A) (ys : List A) (b : A) → ((y ≡ b) × Contains ys b) ⊎ OccursTwice ys b → OccursTwice (y ∷ ys) b
  twice_after y ys b (inl h) = (0, suc h.1.0, omega arith, omega (arith, h.1.1), h.0, h.1.2)
  twice_after y ys b (inr h) = (suc h.0, suc h.1, omega (arith, h.2), omega (arith, h.3), h.4, h.5)

  pub twice_before : (y : A) (ys : List A) (b : A) → OccursTwice (y ∷ ys) b → ((y ≡ b) × Contains ys b) ⊎ OccursTwice ys b
  twice_before y ys b (zero, zero, less, within, p, q) = absurd (omega (arith, less))
  twice_before y ys b (zero, suc j, less, within, p, q) = inl (p, (j, omega (arith, within), q))
  twice_before y ys b (suc i, zero, less, within, p, q) = absurd (omega (arith, less))
  twice_before y ys b (suc i, suc j, less, within, p, q) = inr (i, j, omega (arith, less), omega (arith, within), p, q)

  pub decide_twice : (xs : List A) (b : A) → Decision (OccursTwice xs b)
  decide_twice [] b = inr (λ h. omega (arith, h.3))
  decide_twice (y ∷ ys) b = decide_same (twice_after y ys b, twice_before y ys b) (decide_either (decide_both (same y b) (decide_contains ys b)) (decide_twice ys b))

module _ {A : Type 0} (P : A → Type 0) (decide : (x : A) → Decision (P x)) where
  pub first_after : (y : A) (ys : List A) → (P y → ⊥) → ((x : A) → Contains ys x → P x → ⊥) ⊎ ((x : A) × IsFirst P ys x) → ((x : A) → Contains (y ∷ ys) x → P x → ⊥) ⊎ ((x : A) × IsFirst P (y ∷ ys) x)
  first_after y ys n (inl none) = inl (λ x has p. neither (λ e. n (subst P (sym e) p)) (λ more. none x more p) (contains_cases y ys x has))
  first_after y ys n (inr r) = inr (
    r.0,
    record {
      before = y ∷ r.1.before;
      after = r.1.after;
      occurs = ap (λ l. y ∷ l) r.1.occurs;
      holds = r.1.holds;
      earlier = λ x has p. neither (λ e. n (subst P (sym e) p)) (λ more. r.1.earlier x more p) (contains_cases y r.1.before x has);
    },
  )

  pub first_or_none : (xs : List A) → ((x : A) → Contains xs x → P x → ⊥) ⊎ ((x : A) × IsFirst P xs x)
  first_or_none [] = inl (λ x has p. none_in_nil x has)
  first_or_none (y ∷ ys) = from (decide y) (first_or_none ys)
    where
      from : Decision (P y) → ((x : A) → Contains ys x → P x → ⊥) ⊎ ((x : A) × IsFirst P ys x) → ((x : A) → Contains (y ∷ ys) x → P x → ⊥) ⊎ ((x : A) × IsFirst P (y ∷ ys) x)
      from (inl p) rest = inr (y, record { before = []; after = ys; occurs = refl; holds = p; earlier = λ x has q. none_in_nil x has })
      from (inr n) rest = first_after y ys n rest
