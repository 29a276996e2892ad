-- Vectors that are held, and those at which tables fail that agree at all of them.
use Rattle.std.proofs.Common.{◌≡◌, ◌≢◌, ◌⊎◌, ℕ, ◌+◌, ◌*◌, ◌-◌, ◌^◌, ◌<◌, ◌≤◌, suc, Bool, List, [], ◌∷◌, ◌++◌, length, map, take, drop, get_or, All, Vec, Global, append_assoc, drop-cons, refl, sym, ap, ap₂, subst, ◌∙◌, inl, inr, arith}
use Rattle.std.specs.Prelude.{AllPairs, vec_items}
use Rattle.std.proofs.lemmas.Bool.{cases_lt}
use Rattle.std.proofs.lemmas.List.{get_or-map, length-append, length-map, get_or_append_left, get_or-append_right, map-append, take-append-drop, take_more}
use Rattle.std.proofs.lemmas.List.Elements.{All-nil, All-cons, All-append, All-get_or}
use Rattle.std.proofs.lemmas.Nat.{mul-le}
use Rattle.bb_bits.specs.Tables.{TableBits}
use Rattle.bb_subst.specs.Distinguishing.{AreEquivalentAt, FailAt, AreDistinguishing}
use Rattle.bb_subst.specs.Laws.DistinguishingLaws.{DistinguishingVectorsAreDistinct, VectorsAreFew}
use Rattle.bb_net.specs.Equivalence.{IsVector}
use Rattle.bb_net.specs.Kinds.{representatives, per_box}
use Rattle.bb_net.specs.Netlists.{Netlist}
use Rattle.bb_net.specs.Values.{FitBoxes}
use Rattle.bb_expand.specs.ClauseCounts.{clauses_per_vector, clause_total}
use Rattle.bb_expand.specs.declared.samples.SampleSet.{SampleSet}
use Rattle.bb_expand.specs.Expansions.{expansion}
use Rattle.bb_expand.specs.GivenUp.{NeedsMoreClauses}
use Rattle.bb_expand.specs.Laws.{ClausesAreCounted}
use Rattle.bb_expand.specs.Inside.Failures.{AreDistinctWith, FailsAt}
use Rattle.bb_expand.specs.Inside.Sampling.{IsSampleSet, distinguishing_vectors, sample_vectors}
use Rattle.bb_expand.proofs.DistinguishingAmong.{all_among}
use Rattle.bb_expand.proofs.Pieces.{all_left}
use Rattle.bb_expand.proofs.Pushed.{one_longer}

-- the front of a list whose entries are distinct
pairs_left : {A : Type 0} (xs ys : List A) → AllPairs ◌≢◌ (xs ++ ys) → AllPairs ◌≢◌ xs
pairs_left xs ys pairs i j d less within same =
    let long = length-append xs ys in
    pairs i j d less (omega (arith, within, long)) (get_or_append_left xs ys d i (omega (arith, less, within)) ∙ (same ∙ sym (get_or_append_left xs ys d j within)))

-- two such lists in one, where no entry is in both
pairs_append : {A : Type 0} (xs ys : List A) → AllPairs ◌≢◌ xs → AllPairs ◌≢◌ ys → ((i j : ℕ) (d : A) → i < length xs → j < length ys → get_or xs i d ≢ get_or ys j d) → AllPairs ◌≢◌ (xs ++ ys)
pairs_append xs ys first second apart i j d less within same = elim (cases_lt j (length xs)) [
  | inl left ↦ first i j d less left (sym (get_or_append_left xs ys d i (omega (arith, less, left))) ∙ (same ∙ get_or_append_left xs ys d j left))
  | inr right ↦
      let long = length-append xs ys in
      let here = get_or-append_right xs ys (length xs) j d refl right in
      let inside : j - length xs < length ys = omega (arith, right, within, long) in
      elim (cases_lt i (length xs)) [
        | inl left ↦ apart i (j - length xs) d left inside (sym (get_or_append_left xs ys d i left) ∙ (same ∙ here))
        | inr both ↦ second (i - length xs) (j - length xs) d (omega (arith, less, both, right)) inside (sym (get_or-append_right xs ys (length xs) i d refl both) ∙ (same ∙ here))
      ]
]

pub distinguishing_left : (spec imp : Netlist) (kinds : List ℕ) (xs ys : List (List Bool)) → AreDistinguishing spec imp kinds (xs ++ ys) → AreDistinguishing spec imp kinds xs
distinguishing_left spec imp kinds xs ys distinguishing = record {
  whole = all_left (IsVector imp) xs ys distinguishing.whole;
  each = λ before after x is. distinguishing.each before (after ++ ys) x (ap (λ l. l ++ ys) is ∙ append_assoc before (x ∷ after) ys);
}

pub distinct_left : (P : List Bool → Type 0) (xs ys : List (List Bool)) → AreDistinctWith P (xs ++ ys) → AreDistinctWith P xs
distinct_left P xs ys are = record { each = all_left P xs ys are.each; distinct = pairs_left xs ys are.distinct }

-- where an entry is in a list with one more at its end
snoc_split : {A : Type 0} (xs : List A) (x : A) (before after : List A) (y : A) → xs ++ x ∷ [] ≡ before ++ y ∷ after → ((before ≡ xs) × (y ≡ x)) ⊎ ((rest : List A) × (xs ≡ before ++ y ∷ rest))
snoc_split [] x [] after y e = inl (refl, (let h : x ≡ y = cc e in sym h))
snoc_split [] x (b ∷ before) after y e = absurd (let long = ap length e in omega (arith, long, length-append before (y ∷ after)))
snoc_split (z ∷ xs) x [] after y e = inr (xs, (let h : z ≡ y = cc e in ap (λ w. w ∷ xs) h))
snoc_split {A} (z ∷ xs) x (b ∷ before) after y e =
    let h : z ≡ b = cc e in
    let t : xs ++ x ∷ [] ≡ before ++ y ∷ after = cc e in
    elim (snoc_split xs x before after y t) [
      | inl last ↦ inl (ap₂ (λ w ws. w ∷ ws) (sym h) last.0, last.1)
      | inr within ↦ inr (within.0, ap₂ (λ w ws. w ∷ ws) h within.1)
    ]

module _ (spec imp : Netlist) (kinds : List ℕ) (tables : List TableBits) (fit : FitBoxes tables (representatives kinds imp.boxes)) (vectors : List (List Bool)) (agree : All (AreEquivalentAt spec imp (per_box kinds tables)) vectors) where
  -- a vector at which they fail is distinguishing after those at which they agree
  pub distinguishing_push : AreDistinguishing spec imp kinds vectors → (x : List Bool) → FailsAt spec imp (per_box kinds tables) x → AreDistinguishing spec imp kinds (vectors ++ x ∷ [])
  distinguishing_push distinguishing x fails = record {
    whole = All-append (IsVector imp) vectors (x ∷ []) distinguishing.whole (All-cons (IsVector imp) x [] fails.0 (All-nil (IsVector imp)));
    each = λ before after y is. elim (snoc_split vectors x before after y is) [
      | inl last ↦ (tables, fit, subst (All (AreEquivalentAt spec imp (per_box kinds tables))) (sym last.0) agree, subst (FailAt spec imp (per_box kinds tables)) (sym last.1) fails.1)
      | inr within ↦ distinguishing.each before within.0 y within.1
    ];
  }

  -- no vector at which they fail is among them
  differ : (found : List (List Bool)) → All (FailsAt spec imp (per_box kinds tables)) found → (i j : ℕ) (d : List Bool) → i < length vectors → j < length found → get_or vectors i d ≢ get_or found j d
  differ found fail i j d here there same =
      let wrong = All-get_or (FailsAt spec imp (per_box kinds tables)) found j d there fail in
      let right = subst (AreEquivalentAt spec imp (per_box kinds tables)) same (All-get_or (AreEquivalentAt spec imp (per_box kinds tables)) vectors i d here agree) in
      wrong.1.2 (right wrong.1.0 wrong.1.1)

  -- so vectors at which they fail may be held beside these
  pub failures_after : (found : List (List Bool)) → AreDistinctWith (IsVector imp) vectors → AreDistinctWith (FailsAt spec imp (per_box kinds tables)) found → AreDistinctWith (IsVector imp) (vectors ++ found)
  failures_after found samples are = record {
    each = All-append (IsVector imp) vectors found samples.each (λ k d h. (are.each k d h).0);
    distinct = pairs_append vectors found samples.distinct are.distinct (differ found are.each);
  }

-- distinct vectors are at most all vectors, so their clauses are within the total
pub clauses_of_distinct : VectorsAreFew → ClausesAreCounted → (spec imp : Netlist) (kinds : List ℕ) (vectors : List (List Bool)) → AreDistinctWith (IsVector imp) vectors → length (expansion spec imp kinds vectors).clauses ≤ clause_total imp
clauses_of_distinct few counted spec imp kinds vectors are =
    let at_most : length vectors ≤ 2 ^ imp.inputs = few imp.inputs vectors are.each are.distinct in
    let product : length vectors * clauses_per_vector imp ≤ 2 ^ imp.inputs * clauses_per_vector imp = mul-le (length vectors) (clauses_per_vector imp) (2 ^ imp.inputs) (clauses_per_vector imp) at_most (omega arith) in
    omega (arith, product, counted spec imp kinds vectors)

pub clauses_of_one_more : ClausesAreCounted → (spec imp : Netlist) (kinds : List ℕ) (vectors : List (List Bool)) (x : List Bool) → length (expansion spec imp kinds (vectors ++ x ∷ [])).clauses ≡ length (expansion spec imp kinds vectors).clauses + clauses_per_vector imp
clauses_of_one_more counted spec imp kinds vectors x =
    let more : length (vectors ++ x ∷ []) * clauses_per_vector imp ≡ (length vectors + 1) * clauses_per_vector imp = ap (λ n. n * clauses_per_vector imp) (one_longer vectors x) in
    omega (arith, more, counted spec imp kinds vectors, counted spec imp kinds (vectors ++ x ∷ []))

-- where the distinguishing vectors have no room for a further one, more clauses are needed
pub no_room : VectorsAreFew → DistinguishingVectorsAreDistinct → ClausesAreCounted → (spec imp : Netlist) (kinds : List ℕ) (budget : ℕ) (vectors : List (List Bool)) (x : List Bool) → AreDistinguishing spec imp kinds (vectors ++ x ∷ [])
    → budget < length (expansion spec imp kinds vectors).clauses + clauses_per_vector imp → NeedsMoreClauses spec imp kinds budget
no_room few apart counted spec imp kinds budget vectors x distinguishing none =
    let all = vectors ++ x ∷ [] in
    let over : budget < length (expansion spec imp kinds all).clauses = omega (arith, none, clauses_of_one_more counted spec imp kinds vectors x) in
    let most = clauses_of_distinct few counted spec imp kinds all (record { each = distinguishing.whole; distinct = apart spec imp kinds all distinguishing }) in
    record { many = omega (arith, over, most); samples = all; distinguishing = distinguishing; cause = inl over }

-- the front of some vectors, up to the next one
split_next : {A : Type 0} (xs : List A) (i : ℕ) (d : A) → i < length xs → xs ≡ take i xs ++ get_or xs i d ∷ drop (suc i) xs
split_next xs i d h = sym (take-append-drop i xs) ∙ ap (λ l. take i xs ++ l) (drop-cons xs i d h)

prefix_next : {A B : Type 0} (f : A → B) (start : List B) (xs : List A) (i : ℕ) (d : A) → i < length xs → start ++ map f xs ≡ ((start ++ map f (take i xs)) ++ f (get_or xs i d) ∷ []) ++ map f (drop (suc i) xs)
prefix_next f start xs i d h =
    ap (λ l. start ++ map f l) (split_next xs i d h)
    ∙ ap (λ l. start ++ l) (map-append f (take i xs) (get_or xs i d ∷ drop (suc i) xs))
    ∙ sym (append_assoc start (map f (take i xs)) (f (get_or xs i d) ∷ map f (drop (suc i) xs)))
    ∙ sym (append_assoc (start ++ map f (take i xs)) (f (get_or xs i d) ∷ []) (map f (drop (suc i) xs)))

-- vectors that are held one after another
module _ {A : Type 0} (f : A → List Bool) (start now : List (List Bool)) (xs : List A) (i : ℕ) (v : A) (x : List Bool) (there : i < length xs) (next : v ≡ get_or xs i v) (is : x ≡ f v)
    (so_far : now ≡ start ++ map f (take i xs)) where
  -- up to the next one they are a front of all
  pub up_to_next : start ++ map f xs ≡ (now ++ x ∷ []) ++ map f (drop (suc i) xs)
  up_to_next = prefix_next f start xs i v there ∙ ap₂ (λ l y. (l ++ y ∷ []) ++ map f (drop (suc i) xs)) (sym so_far) (sym (is ∙ ap f next))

  pub taken_next : now ++ x ∷ [] ≡ start ++ map f (take (i + 1) xs)
  taken_next =
      ap₂ (λ l y. l ++ y ∷ []) so_far (is ∙ ap f next)
      ∙ append_assoc start (map f (take i xs)) (f (get_or xs i v) ∷ [])
      ∙ ap (λ l. start ++ l) (sym (map-append f (take i xs) (get_or xs i v ∷ [])))
      ∙ ap (λ l. start ++ map f l) (sym (take_more xs i v there))

-- the first of some vectors alone, and those after it up to a number
pub some_taken : {A : Type 0} (P : List Bool → Type 0) (f : A → List Bool) (start : List (List Bool)) (xs : List A) (n : ℕ) → AreDistinctWith P (start ++ map f xs) → AreDistinctWith P (start ++ map f (take n xs))
some_taken P f start xs n are =
    let parts = ap (map f) (sym (take-append-drop n xs)) ∙ map-append f (take n xs) (drop n xs) in
    distinct_left P (start ++ map f (take n xs)) (map f (drop n xs)) (subst (AreDistinctWith P) (ap (λ l. start ++ l) parts ∙ sym (append_assoc start (map f (take n xs)) (map f (drop n xs)))) are)

take-first : {A B : Type 0} (f : A → B) (xs : List A) (d : A) (n : ℕ) → 0 < length xs → map f (take (suc n) xs) ≡ f (get_or xs 0 d) ∷ map f (take n (drop 1 xs))
take-first f [] d n some = absurd (omega (arith, some))
take-first f (x ∷ xs) d n some = refl

module _ (spec imp : Netlist) (kinds : List ℕ) (tables : List TableBits) (fit : FitBoxes tables (representatives kinds imp.boxes)) (samples : List (List Bool)) (agree : All (AreEquivalentAt spec imp (per_box kinds tables)) samples) (each : AreDistinctWith (IsVector imp) samples)
    (failures : List (Vec Bool Global)) (some : 0 < length failures) (are : AreDistinctWith (FailsAt spec imp (per_box kinds tables)) (map vec_items failures)) (d : Vec Bool Global) where
  abbrev first : List Bool
  first = vec_items (get_or failures 0 d)

  all : AreDistinctWith (IsVector imp) (samples ++ map vec_items failures)
  all = failures_after spec imp kinds tables fit samples agree (map vec_items failures) each are

  pub first_beside : AreDistinctWith (IsVector imp) (samples ++ first ∷ [])
  first_beside = subst (λ l. AreDistinctWith (IsVector imp) (samples ++ l)) (take-first vec_items failures d 0 some) (some_taken (IsVector imp) vec_items samples failures 1 all)

  pub others_beside : (n : ℕ) → AreDistinctWith (IsVector imp) ((samples ++ first ∷ []) ++ map vec_items (take n (drop 1 failures)))
  others_beside n =
      let rest = map vec_items (take n (drop 1 failures)) in
      subst (AreDistinctWith (IsVector imp)) (ap (λ l. samples ++ l) (take-first vec_items failures d n some) ∙ sym (append_assoc samples (first ∷ []) rest)) (some_taken (IsVector imp) vec_items samples failures (suc n) all)

  pub first_fails : FailsAt spec imp (per_box kinds tables) first
  first_fails = subst (FailsAt spec imp (per_box kinds tables)) (get_or-map vec_items failures 0 d (vec_items d) some) (are.each 0 (vec_items d) (omega (arith, some, length-map failures vec_items)))

-- where there is no room beside the distinguishing vectors for the first of those at which they fail, more clauses are needed
pub first_has_no_room : VectorsAreFew → DistinguishingVectorsAreDistinct → ClausesAreCounted → (spec imp : Netlist) (kinds : List ℕ) (budget : ℕ) (tables : List TableBits) → FitBoxes tables (representatives kinds imp.boxes) → (samples : SampleSet) → IsSampleSet spec imp kinds budget samples
    → All (AreEquivalentAt spec imp (per_box kinds tables)) (sample_vectors samples) → (failures : List (Vec Bool Global)) → 0 < length failures → AreDistinctWith (FailsAt spec imp (per_box kinds tables)) (map vec_items failures)
    → budget < length (expansion spec imp kinds (distinguishing_vectors samples)).clauses + clauses_per_vector imp → NeedsMoreClauses spec imp kinds budget
first_has_no_room few apart counted spec imp kinds budget tables fit samples is agree [] some are none = absurd (omega (arith, some))
first_has_no_room few apart counted spec imp kinds budget tables fit samples is agree (v ∷ failures) some are none =
    let distinguishing_agree = all_among (AreEquivalentAt spec imp (per_box kinds tables)) (distinguishing_vectors samples) (sample_vectors samples) agree is.among in
    let distinguishing = distinguishing_push spec imp kinds tables fit (distinguishing_vectors samples) distinguishing_agree is.distinguishing (vec_items v) (are.each 0 [] (omega arith)) in
    no_room few apart counted spec imp kinds budget (distinguishing_vectors samples) (vec_items v) distinguishing none
