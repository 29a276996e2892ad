-- What the number of drivers of a bit says: whether the bit is driven, and whether it is driven twice.
use Rattle.std.proofs.Common.{◌≡◌, ◌⊎◌, ◌<◌, ◌≤◌, ℕ, zero, suc, Bool, true, false, if◌then◌else◌, List, [], ◌∷◌, length, take, drop, get_or, Contains, Some, refl, sym, ap, ◌∙◌, subst, inl, inr, arith, true≢false}
use Rattle.std.specs.Prelude.{slice_get}
use Rattle.std.specs.List.{filter}
use Rattle.std.proofs.lemmas.List.{get_or_default}
use Rattle.std.proofs.lemmas.List.Elements.{All-contains}
use Rattle.std.proofs.lemmas.Option.{slice_get_read}
use Rattle.bb_design.specs.Hierarchy.{Design}
use Rattle.bb_design.specs.NetBits.{Bit, same_bit, net_order}
use Rattle.bb_design.specs.Drivers.{driven_bits}
use Rattle.bb_elab.specs.Inside.DrivenNumbers.{IsFirstAt, AreCounts}
use Rattle.bb_design.specs.Inside.Allowed.{IsBounded}
use Rattle.bb_design.specs.Refusals.{AreDrivenOnce, IsDrivenTwice}
use Rattle.bb_lemmas.proofs.Places.{some_at, split, taken}
use Rattle.bb_lemmas.proofs.Members.{contains_here, contains_there, contains_cases, none_in_nil}
use Rattle.bb_design.specs.Laws.DesignLaws.{DesignLaws}

abbrev found : Bit → List Bit → ℕ
found b xs = length (filter (same_bit b) xs)

module _ (of_designs : DesignLaws) where
  pub found_there : (b : Bit) (xs : List Bit) → 0 < found b xs → Contains xs b
  found_there b [] some = absurd (omega (arith, some))
  found_there b (x ∷ xs) some = by (same_bit b x) refl some (found_there b xs)
    where
      by : (t : Bool) → same_bit b x ≡ t → 0 < length (if t then x ∷ filter (same_bit b) xs else filter (same_bit b) xs) → (0 < found b xs → Contains xs b) → Contains (x ∷ xs) b
      by true e more rest = subst (Contains (x ∷ xs)) (sym ((of_designs.distinguished b x).0 e)) (contains_here x xs)
      by false e more rest = contains_there x xs b (rest more)

  pub there_found : (b : Bit) (xs : List Bit) → Contains xs b → 0 < found b xs
  there_found b [] has = absurd (none_in_nil b has)
  there_found b (x ∷ xs) has = by (same_bit b x) refl (contains_cases x xs b has) (there_found b xs)
    where
      by : (t : Bool) → same_bit b x ≡ t → (x ≡ b) ⊎ Contains xs b → (Contains xs b → 0 < found b xs) → 0 < length (if t then x ∷ filter (same_bit b) xs else filter (same_bit b) xs)
      by true e at rest = omega arith
      by false e (inl same) rest = absurd (true≢false (sym (((of_designs.distinguished b b).1 refl)) ∙ ap (same_bit b) (sym same) ∙ e))
      by false e (inr more) rest = rest more

-- it is at two places
abbrev OccursTwice : Bit → List Bit → Type 0
OccursTwice b xs = (i j : ℕ) × (i < j) × (j < length xs) × (get_or xs i b ≡ b) × (get_or xs j b ≡ b)

module _ (of_designs : DesignLaws) where
  found_twice : (b : Bit) (xs : List Bit) → 2 ≤ found b xs → OccursTwice b xs
  found_twice b [] many = absurd (omega (arith, many))
  found_twice b (x ∷ xs) many = by (same_bit b x) refl many (found_twice b xs)
    where
      later : OccursTwice b xs → OccursTwice b (x ∷ xs)
      later (i, j, less, within, p, q) = (suc i, suc j, omega (arith, less), omega (arith, within), p, q)

      first : x ≡ b → Contains xs b → OccursTwice b (x ∷ xs)
      first is (k, lt, at) = (0, suc k, omega arith, omega (arith, lt), is, at)

      by : (t : Bool) → same_bit b x ≡ t → 2 ≤ length (if t then x ∷ filter (same_bit b) xs else filter (same_bit b) xs) → (2 ≤ found b xs → OccursTwice b xs) → OccursTwice b (x ∷ xs)
      by true e more rest = first (sym ((of_designs.distinguished b x).0 e)) (found_there of_designs b xs (omega (arith, more)))
      by false e more rest = later (rest more)

  twice_found : (b : Bit) (xs : List Bit) → OccursTwice b xs → 2 ≤ found b xs
  twice_found b [] (i, j, less, within, p, q) = absurd (omega (arith, within))
  twice_found b (x ∷ xs) (i, zero, less, within, p, q) = absurd (omega (arith, less))
  twice_found b (x ∷ xs) (zero, suc j, less, within, p, q) = by (same_bit b x) refl
    where
      by : (t : Bool) → same_bit b x ≡ t → 2 ≤ length (if t then x ∷ filter (same_bit b) xs else filter (same_bit b) xs)
      by true e = let one = there_found of_designs b xs (j, omega (arith, within), q) in omega (arith, one)
      by false e = absurd (true≢false (sym (((of_designs.distinguished b b).1 refl)) ∙ ap (same_bit b) (sym p) ∙ e))
  twice_found b (x ∷ xs) (suc i, suc j, less, within, p, q) = by (same_bit b x) (twice_found b xs (i, j, omega (arith, less), omega (arith, within), p, q))
    where
      by : (t : Bool) → 2 ≤ found b xs → 2 ≤ length (if t then x ∷ filter (same_bit b) xs else filter (same_bit b) xs)
      by true more = omega (arith, more)
      by false more = more

module _ (of_designs : DesignLaws) (d : Design) (counts : List ℕ) (counted : AreCounts d counts) where
  -- a bit is driven where it has drivers
  pub driven_counted : (k : ℕ) (b : Bit) → slice_get (net_order d) k ≡ Some b → 0 < get_or counts k 0 → Contains (driven_bits d) b
  driven_counted k b at some = found_there of_designs b (driven_bits d) (omega (arith, some, counted.each k b at))

  pub undriven_counted : (k : ℕ) (b : Bit) → slice_get (net_order d) k ≡ Some b → get_or counts k 0 ≡ 0 → Contains (driven_bits d) b → ⊥
  undriven_counted k b at none has = let some = there_found of_designs b (driven_bits d) has in omega (arith, some, none, counted.each k b at)

  twice_counted : (k : ℕ) (b : Bit) → slice_get (net_order d) k ≡ Some b → get_or counts k 0 < 2 → IsDrivenTwice d b → ⊥
  twice_counted k b at few twice = let many = twice_found of_designs b (driven_bits d) twice in omega (arith, many, few, counted.each k b at)

  -- the first that has two drivers
  pub first_twice : (k : ℕ) → k < length counts → 2 ≤ get_or counts k 0 → ((j : ℕ) → j < k → get_or counts j 0 < 2) → IsFirstAt d (IsDrivenTwice d) k
  first_twice k lt many few =
      let b = some_at (net_order d) k (omega (arith, lt, counted.count)) in (
        b.0,
        b.1,
        record {
          before = take k (net_order d);
          after = drop (suc k) (net_order d);
          occurs = split (net_order d) k b.0 b.1;
          holds = found_twice of_designs b.0 (driven_bits d) (omega (arith, many, counted.each k b.0 b.1));
          earlier = λ y has. let j = taken (net_order d) k y has in twice_counted j.0 y j.2 (few j.0 j.1);
        },
      )

  pub none_twice : IsBounded d → ((j : ℕ) → j < length counts → get_or counts j 0 < 2) → AreDrivenOnce d
  none_twice bounded few i j e less within same =
      let b = get_or (driven_bits d) i e in
      let lt : i < length (driven_bits d) = omega (arith, less, within) in
      let there = All-contains (Contains (net_order d)) (driven_bits d) b (of_designs.bits_there d bounded).driven (i, lt, get_or_default (driven_bits d) i b e lt) in
      twice_counted there.0 b (slice_get_read (net_order d) (length (net_order d)) there.0 b refl there.1 (sym there.2)) (few there.0 (omega (arith, there.1, counted.count)))
      (i, j, less, within, get_or_default (driven_bits d) i b e lt, get_or_default (driven_bits d) j b e within ∙ sym same)
