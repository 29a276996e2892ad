-- points that begin alike, and the numbers that they spell
use Rattle.std.proofs.Common.{◌≡◌, ◌<◌, ◌≤◌, ◌+◌, ◌^◌, ◌⊎◌, ℕ, zero, suc, Bool, true, false, List, [], ◌∷◌, length, take, drop, set, replicate, ◌-◌, ◌++◌, get_or, refl, sym, ap, ap₂, ◌∙◌, inl, inr, subst, arith, length-set, true≢false, take_all, length-drop, length-take-le, get_or-set_same, get_or-set_other}
use Rattle.std.proofs.lemmas.List.{take-set, take_more_same, length-replicate}
use Rattle.std.proofs.lemmas.Slice.{take-put_mid}
use borrow.Rule.Slice.PartMut.{put_mid, mid_of, same_len_mid}
use Rattle.bb_bits.specs.Numbers.{number_of}
use Rattle.bb_bits.specs.Truth.{Truth, truth_at}
use Rattle.bb_quant.specs.Inside.LeastPoints.{BeginsAs, IsLeastPoint}
use Rattle.bb_quant.proofs.Given.{NumbersAreBelow}

pub take_fewer : (k j : ℕ) (p q : List Bool) → k ≤ j → take j q ≡ take j p → take k q ≡ take k p
take_fewer zero j p q l e = refl
take_fewer (suc k) zero p q l e = absurd (omega (arith, l))
take_fewer (suc k) (suc j) [] [] l e = refl
take_fewer (suc k) (suc j) [] (y ∷ q) l e = absurd (let k = ap length e in omega (arith, k))
take_fewer (suc k) (suc j) (x ∷ p) [] l e = absurd (let k = ap length e in omega (arith, k))
take_fewer (suc k) (suc j) (x ∷ p) (y ∷ q) l e =
    ap₂ (λ b bits. b ∷ bits) (ap (λ bits. get_or bits 0 false) e) (take_fewer k j p q (omega (arith, l)) (ap (drop 1) e))

pub bit_of_first : (k i : ℕ) (p q : List Bool) → i < k → take k q ≡ take k p → get_or q i false ≡ get_or p i false
bit_of_first zero i p q l e = absurd (omega (arith, l))
bit_of_first (suc k) i [] [] l e = refl
bit_of_first (suc k) i [] (y ∷ q) l e = absurd (let k = ap length e in omega (arith, k))
bit_of_first (suc k) i (x ∷ p) [] l e = absurd (let k = ap length e in omega (arith, k))
bit_of_first (suc k) zero (x ∷ p) (y ∷ q) l e = ap (λ bits. get_or bits 0 false) e
bit_of_first (suc k) (suc i) (x ∷ p) (y ∷ q) l e = bit_of_first k i p q (omega (arith, l)) (ap (drop 1) e)

-- q comes after each point that has the first j bits of p
abbrev pub IsLater : ℕ → List Bool → List Bool → Type 0
IsLater j p q = (r : List Bool) → length r ≡ length p → take j r ≡ take j p → number_of r < number_of q

heavier : (b : Bool) (r q : List Bool) → length r ≡ length q → number_of r < number_of q → number_of (b ∷ r) < number_of (b ∷ q)
heavier true r q e l = let k = ap (λ n. 2 ^ n) e in omega (arith, k, l)
heavier false r q e l = l

later_after : (b : Bool) (j : ℕ) (p q : List Bool) → length q ≡ length p → IsLater j p q → IsLater (suc j) (b ∷ p) (b ∷ q)
later_after b j p q long later [] h e = absurd (omega (arith, h))
later_after b j p q long later (x ∷ r) h e =
    let short : length r ≡ length p = omega (arith, h) in
    subst (λ y. number_of (y ∷ r) < number_of (b ∷ q)) (sym (ap (λ bits. get_or bits 0 false) e))
    (heavier b r q (omega (arith, short, long)) (later r short (ap (drop 1) e)))

module _ (below : NumbersAreBelow) where
  one_is_later : (j : ℕ) (p q : List Bool) → length q ≡ length p → IsLater (suc j) (false ∷ p) (true ∷ q)
  one_is_later j p q long [] h e = absurd (omega (arith, h))
  one_is_later j p q long (x ∷ r) h e =
      let same : length r ≡ length q = omega (arith, h, long) in
      let l = below r in
      let k = ap (λ n. 2 ^ n) same in
      subst (λ y. number_of (y ∷ r) < number_of (true ∷ q)) (sym (ap (λ bits. get_or bits 0 false) e)) (omega (arith, l, k))

  after : (b : Bool) (j : ℕ) (p q : List Bool) → length q ≡ length p → (take j q ≡ take j p) ⊎ IsLater j p q → (take (suc j) (b ∷ q) ≡ take (suc j) (b ∷ p)) ⊎ IsLater (suc j) (b ∷ p) (b ∷ q)
  after b j p q long (inl e) = inl (ap (λ bits. b ∷ bits) e)
  after b j p q long (inr later) = inr (later_after b j p q long later)

  -- where p is 0 from k on, a point with its first k bits has its first j bits too or comes later
  pub begins_or_later : (j k : ℕ) (p q : List Bool) → length q ≡ length p → take k q ≡ take k p → ((i : ℕ) → k ≤ i → get_or p i false ≡ false) → (take j q ≡ take j p) ⊎ IsLater j p q
  begins_or_later zero k p q long e zeros = inl refl
  begins_or_later (suc j) k [] [] long e zeros = inl refl
  begins_or_later (suc j) k [] (y ∷ q) long e zeros = absurd (omega (arith, long))
  begins_or_later (suc j) k (x ∷ p) [] long e zeros = absurd (omega (arith, long))
  begins_or_later (suc j) zero (true ∷ p) (y ∷ q) long e zeros = absurd (true≢false (zeros 0 (omega arith)))
  begins_or_later (suc j) zero (false ∷ p) (true ∷ q) long e zeros = inr (one_is_later j p q (omega (arith, long)))
  begins_or_later (suc j) zero (false ∷ p) (false ∷ q) long e zeros =
      let short : length q ≡ length p = omega (arith, long) in
      after false j p q short (begins_or_later j zero p q short refl (λ i l. zeros (suc i) (omega arith)))
  begins_or_later (suc j) (suc k) (x ∷ p) (y ∷ q) long e zeros =
      let short : length q ≡ length p = omega (arith, long) in
      let same : y ≡ x = ap (λ bits. get_or bits 0 false) e in
      subst (λ b. (take (suc j) (b ∷ q) ≡ take (suc j) (x ∷ p)) ⊎ IsLater (suc j) (x ∷ p) (b ∷ q)) (sym same)
      (after x j p q short (begins_or_later j k p q short (ap (drop 1) e) (λ i l. zeros (suc i) (omega (arith, l)))))

  -- fewer bits that are given, where the others are 0
  pub least_by_fewer : (t : Truth) (want : Bool) (k j : ℕ) (given p : List Bool) → k ≤ j → ((i : ℕ) → k ≤ i → get_or given i false ≡ false) → IsLeastPoint t want j given p → IsLeastPoint t want k given p
  least_by_fewer t want k j given p l zeros x = record {
    begins = (x.begins.0, take_fewer k j given p l x.begins.1);
    bit = x.bit;
    least = λ q b e. elim (begins_or_later j k given q b.0 b.1 zeros) [
      | inl same ↦ x.least q (b.0, same) e
      | inr later ↦ let less = later p x.begins.0 x.begins.1 in omega (arith, less)
    ];
  }

  -- at a node of the variable v: the least point of the first child
  pub least_in_first : (t lo : Truth) (want : Bool) (v j : ℕ) (given p : List Bool) → v < j → ((i : ℕ) → v ≤ i → get_or given i false ≡ false) →
      ((q : List Bool) → length q ≡ length given → get_or q v false ≡ false → truth_at t q ≡ truth_at lo q) → IsLeastPoint lo want j given p → IsLeastPoint t want v given p
  least_in_first t lo want v j given p l zeros at x =
      let clear : (q : List Bool) → take j q ≡ take j given → get_or q v false ≡ false = λ q e. bit_of_first j v given q l e ∙ zeros v (omega arith) in
      record {
        begins = (x.begins.0, take_fewer v j given p (omega (arith, l)) x.begins.1);
        bit = at p x.begins.0 (clear p x.begins.1) ∙ x.bit;
        least = λ q b e. elim (begins_or_later j v given q b.0 b.1 zeros) [
          | inl same ↦ x.least q (b.0, same) (sym (at q b.0 (clear q same)) ∙ e)
          | inr later ↦ let less = later p x.begins.0 x.begins.1 in omega (arith, less)
        ];
      }

  -- the least point of the second child, where the first has no point
  pub least_in_second : (t hi : Truth) (want : Bool) (v j : ℕ) (given p : List Bool) → v < length given → v < j → ((i : ℕ) → v ≤ i → get_or given i false ≡ false) →
      ((q : List Bool) → length q ≡ length given → get_or q v false ≡ true → truth_at t q ≡ truth_at hi q) →
      ((q : List Bool) → length q ≡ length given → get_or q v false ≡ false → truth_at t q ≡ want → ⊥) →
      IsLeastPoint hi want j (set given v true) p → IsLeastPoint t want v given p
  least_in_second t hi want v j given p inside l zeros at none x =
      let long : length (set given v true) ≡ length given = length-set given v true in
      let one : get_or (set given v true) v false ≡ true = get_or-set_same given v true false inside in
      let p_one : get_or p v false ≡ true = bit_of_first j v (set given v true) p l x.begins.1 ∙ one in
      record {
        begins = (x.begins.0 ∙ long, take_fewer v j (set given v true) p (omega (arith, l)) x.begins.1 ∙ take-set given v true);
        bit = at p (x.begins.0 ∙ long) p_one ∙ x.bit;
        least = λ q b e. by_bit q b e (get_or q v false) refl;
      }
    where
      by_bit : (q : List Bool) → BeginsAs v given q → truth_at t q ≡ want → (c : Bool) → get_or q v false ≡ c → number_of p ≤ number_of q
      by_bit q b e false c = absurd (none q b.0 c e)
      by_bit q b e true c =
          let long : length (set given v true) ≡ length given = length-set given v true in
          let one : get_or (set given v true) v false ≡ true = get_or-set_same given v true false inside in
          let first : take (v + 1) q ≡ take (v + 1) (set given v true) =
          take_more_same q (set given v true) v false (omega (arith, inside, b.0)) (omega (arith, inside, long)) (b.1 ∙ sym (take-set given v true)) (c ∙ sym one) in
          let rest : (i : ℕ) → v + 1 ≤ i → get_or (set given v true) i false ≡ false =
          λ i more. get_or-set_other given v i true false (λ same. omega (arith, more, same)) ∙ zeros i (omega (arith, more)) in
          elim (begins_or_later j (v + 1) (set given v true) q (b.0 ∙ sym long) first rest) [
            | inl same ↦ x.least q (b.0 ∙ sym long, same) (sym (at q b.0 c) ∙ e)
            | inr later ↦ let less = later p x.begins.0 x.begins.1 in omega (arith, less)
          ]

-- of the points that have all bits of one, this is the least
pub least_of_one : (t : Truth) (want : Bool) (n : ℕ) (p : List Bool) → length p ≡ n → truth_at t p ≡ want → IsLeastPoint t want n p p
least_of_one t want n p long e = record {
  begins = (refl, refl);
  bit = e;
  least = λ q b h.
      let same : q ≡ p = sym (take_all n q (omega (arith, long, b.0))) ∙ (b.1 ∙ take_all n p (omega (arith, long))) in
      let k = ap number_of same in
      omega (arith, k);
}

no_bit : (n i : ℕ) → get_or (replicate n false) i false ≡ false
no_bit zero i = refl
no_bit (suc n) zero = refl
no_bit (suc n) (suc i) = no_bit n i

-- zeros after some first bits
pub zeros_after : (k n i : ℕ) (p : List Bool) → k ≤ length p → k ≤ i → get_or (take k p ++ replicate n false) i false ≡ false
zeros_after zero n i p h l = no_bit n i
zeros_after (suc k) n i [] h l = absurd (omega (arith, h))
zeros_after (suc k) n zero (b ∷ p) h l = absurd (omega (arith, l))
zeros_after (suc k) n (suc i) (b ∷ p) h l = zeros_after k n i p (omega (arith, h)) (omega (arith, l))

pub cleared : (k : ℕ) (p zeros : List Bool) → k ≤ length p → zeros ≡ replicate (length p - k) false → put_mid k (length p - k) p zeros ≡ take k p ++ replicate (length p - k) false
cleared k p zeros h e =
    let size : length zeros ≡ length p - k = ap length e ∙ length-replicate (length p - k) false in
    let rest = length-drop k p in
    let mid : length (mid_of k (length p - k) p) ≡ length p - k = length-take-le (length p - k) (drop k p) (omega (arith, rest)) in
    let whole : length (put_mid k (length p - k) p zeros) ≡ length p = same_len_mid k (length p - k) p zeros (size ∙ sym mid) in
    sym (take_all (length p) (put_mid k (length p - k) p zeros) (omega (arith, whole)))
    ∙ (take-put_mid k (length p - k) p zeros (length p) (omega (arith, size, h)) h ∙ ap (λ bits. take k p ++ bits) e)

-- the same least point, for a point with the same first bits, and a table that has the same bits at all points with them
pub least_given : (t r : Truth) (want : Bool) (k : ℕ) (given cleared p : List Bool) → length cleared ≡ length given → take k cleared ≡ take k given →
    ((q : List Bool) → BeginsAs k given q → truth_at t q ≡ truth_at r q) → IsLeastPoint r want k cleared p → IsLeastPoint t want k given p
least_given t r want k given cleared p long first same x =
    let begins : BeginsAs k given p = (x.begins.0 ∙ long, x.begins.1 ∙ first) in
    record {
      begins = begins;
      bit = same p begins ∙ x.bit;
      least = λ q b e. x.least q (b.0 ∙ sym long, b.1 ∙ sym first) (sym (same q b) ∙ e);
    }
