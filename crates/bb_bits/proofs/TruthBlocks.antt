-- the beads of a table are the aligned blocks of its bits whose halves differ
use Rattle.std.proofs.Common.{◌≡◌, ◌≢◌, ◌≤◌, ◌<◌, ◌↔◌, ℕ, zero, suc, ◌+◌, ◌-◌, ◌*◌, ◌^◌, Bool, List, ◌++◌, length, take, drop, refl, sym, ap, ◌∙◌, subst, inl, inr, arith, add-one, add-zero, add-suc, zero-mul}
use Rattle.std.proofs.lemmas.List.{take_at, drop_at, take_all, take-append-le, drop-append-le, length-drop}
use Rattle.std.proofs.lemmas.Nat.{pow-add, pow_pos}
use Rattle.std.proofs.lemmas.Bool.{cases_lt, cases_order}
use Rattle.std.proofs.Math.Seq.{drop-append-add}
use Rattle.std.proofs.Math.Nat.{pow-suc, mul-le-mul_right, le_of_mul-le-mul_left}
use Rattle.std.proofs.Math.Pow.{pow-lt}
use Rattle.bb_bits.specs.Truth.{Truth, Bit, Halves, IsTruthTable, truth_bits, IsSubtableOf, IsBead, IsBeadOf, IsAlignedBead}
use Rattle.bb_bits.proofs.TruthBits.{length-truth_bits, bits_fix_table}
use Rattle.bb_bits.proofs.TruthBeads.{IsSubtableOf-self}

-- the block of 2^m bits with the number k
abbrev block : ℕ → ℕ → List Bool → List Bool
block m k bits = take (2 ^ m) (drop (k * 2 ^ m) bits)

block-first : (m k v : ℕ) (xs ys : List Bool) → k * 2 ^ m + 2 ^ m ≤ length xs → block m k (xs ++ ys) ≡ block m k xs
block-first m k v xs ys h =
    rw (drop-append-le (k * 2 ^ m) xs ys (omega arith)) (take-append-le (2 ^ m) (drop (k * 2 ^ m) xs) ys (omega (arith, length-drop (k * 2 ^ m) xs)))

block-second : (m j k : ℕ) (xs ys : List Bool) → length xs ≡ 2 ^ (m + j) → block m (2 ^ j + k) (xs ++ ys) ≡ block m k ys
block-second m j k xs ys h =
    let e : (2 ^ j + k) * 2 ^ m ≡ length xs + k * 2 ^ m = omega (arith, h, pow-add 2 m j) in
    rw e (rw (drop-append-add xs ys (k * 2 ^ m)))

-- blocks of 2^m bits below the number 2^j lie within 2^(m + j) bits
block_within : (m j k : ℕ) → k < 2 ^ j → k * 2 ^ m + 2 ^ m ≤ 2 ^ (m + j)
block_within m j k h =
    let p : (k + 1) * 2 ^ m ≤ 2 ^ j * 2 ^ m = mul-le-mul_right (2 ^ m) (omega arith) in
    omega (arith, p, pow-add 2 m j)

-- the table of the block of 2^m bits with this number is a subtable
subtable_at : (j m k : ℕ) (t : Truth) → IsTruthTable (m + j) t → k < 2 ^ j → (b : Truth) × IsTruthTable m b × IsSubtableOf b t × (truth_bits b ≡ block m k (truth_bits t))
subtable_at zero m k t h l =
    let e : k ≡ 0 = omega (arith, l) in
    let h' : IsTruthTable m t = rw add-zero at h in
    (t, h', IsSubtableOf-self t, rw (e, zero-mul) (sym (take_all (2 ^ m) (truth_bits t) (omega (arith, length-truth_bits m t h')))))
subtable_at (suc j) m k (Bit x) h l = absurd (rw add-suc at h)
subtable_at (suc j) m k (Halves lo hi) h l =
    let h' : IsTruthTable (suc (m + j)) (Halves lo hi) = rw add-suc at h in
    let long = length-truth_bits (m + j) lo h'.0 in
    elim (cases_lt k (2 ^ j)) [
      | inl first ↦
          let s = subtable_at j m k lo h'.0 first in
          (s.0, s.1, inr (inl s.2), s.3 ∙ sym (block-first m k (m + j) (truth_bits lo) (truth_bits hi) (omega (arith, long, block_within m j k first))))
      | inr second ↦
          let s = subtable_at j m (k - 2 ^ j) hi h'.1 (omega (arith, l, pow-suc 2 j)) in
          let e : 2 ^ j + (k - 2 ^ j) ≡ k = omega arith in
          (s.0, s.1, inr (inr s.2), s.3 ∙ (sym (block-second m j (k - 2 ^ j) (truth_bits lo) (truth_bits hi) long) ∙ ap (λ i. block m i (truth_bits lo ++ truth_bits hi)) e))
    ]

-- where a subtable is
pub record Place (v : ℕ) (b t : Truth) : Type 0 where
  pub m : ℕ
  pub j : ℕ
  pub k : ℕ
  pub sizes : m + j ≡ v
  pub below : k < 2 ^ j
  pub isTable : IsTruthTable m b
  pub bits : truth_bits b ≡ take (2 ^ m) (drop (k * 2 ^ m) (truth_bits t))

pub place_of : (v : ℕ) (b t : Truth) → IsTruthTable v t → IsSubtableOf b t → Place v b t
place_of zero b (Bit x) h s = record { m = 0; j = 0; k = 0; sizes = refl; below = omega arith; isTable = subst (IsTruthTable 0) (sym s) tt; bits = ap truth_bits s }
place_of zero b (Halves lo hi) h s = absurd h
place_of (suc v) b (Bit x) h s = absurd h
place_of (suc v) b (Halves lo hi) h (inl e) = record {
  m = suc v;
  j = 0;
  k = 0;
  sizes = omega arith;
  below = omega arith;
  isTable = subst (IsTruthTable (suc v)) (sym e) h;
  bits = ap truth_bits e ∙ rw zero-mul (sym (take_all (2 ^ suc v) (truth_bits lo ++ truth_bits hi) (omega (arith, length-truth_bits (suc v) (Halves lo hi) h))));
}
place_of (suc v) b (Halves lo hi) h (inr (inl s)) =
    let p = place_of v b lo h.0 s in
    let within = block_within p.m p.j p.k p.below in
    let long = length-truth_bits v lo h.0 in
    let power = ap (λ n. 2 ^ n) p.sizes in
    record {
      m = p.m;
      j = suc p.j;
      k = p.k;
      sizes = omega (arith, p.sizes);
      below = omega (arith, p.below, pow-suc 2 p.j);
      isTable = p.isTable;
      bits = p.bits ∙ sym (block-first p.m p.k v (truth_bits lo) (truth_bits hi) (omega (arith, within, long, power)));
    }
place_of (suc v) b (Halves lo hi) h (inr (inr s)) =
    let p = place_of v b hi h.1 s in
    let long = length-truth_bits v lo h.0 in
    let power = ap (λ n. 2 ^ n) p.sizes in
    record {
      m = p.m;
      j = suc p.j;
      k = 2 ^ p.j + p.k;
      sizes = omega (arith, p.sizes);
      below = omega (arith, p.below, pow-suc 2 p.j);
      isTable = p.isTable;
      bits = p.bits ∙ sym (block-second p.m p.j p.k (truth_bits lo) (truth_bits hi) (omega (arith, long, power)));
    }

-- a bead has halves, and so one variable at least
bead_halves : (m : ℕ) (b : Truth) → IsTruthTable m b → IsBead b → (n : ℕ) × (lo : Truth) × (hi : Truth) × (m ≡ suc n) × (b ≡ Halves lo hi) × IsTruthTable n lo × IsTruthTable n hi × (lo ≢ hi)
bead_halves zero (Bit x) h k = absurd k
bead_halves zero (Halves lo hi) h k = absurd h
bead_halves (suc n) (Bit x) h k = absurd h
bead_halves (suc n) (Halves lo hi) h k = (n, lo, hi, refl, refl, h.0, h.1, k)

-- the halves of a bead's bits differ
halves_differ : (m : ℕ) (lo hi : Truth) (s : List Bool) → IsTruthTable m lo → IsTruthTable m hi → lo ≢ hi → truth_bits lo ++ truth_bits hi ≡ s → take (2 ^ m) s ≢ drop (2 ^ m) s
halves_differ m lo hi s h k differ e same =
    let long = length-truth_bits m lo h in
    let first : take (2 ^ m) s ≡ truth_bits lo = rw (← e) (take_at (truth_bits lo) (truth_bits hi) (2 ^ m) long) in
    let second : drop (2 ^ m) s ≡ truth_bits hi = rw (← e) (drop_at (truth_bits lo) (truth_bits hi) (2 ^ m) long) in
    differ (bits_fix_table m lo hi h k (sym first ∙ (same ∙ second)))

block_of_bead : (v : ℕ) (t b : Truth) (s : List Bool) → IsTruthTable v t → IsBeadOf b t → truth_bits b ≡ s → IsAlignedBead s (truth_bits t)
block_of_bead v t b s h bead e =
    let p = place_of v b t h bead.0 in
    let q = bead_halves p.m b p.isTable bead.1 in
    let n = q.0 in
    let size : p.m ≡ n + 1 = omega (arith, q.3) in
    let power : 2 ^ p.m ≡ 2 ^ (n + 1) = ap (λ i. 2 ^ i) size in
    let whole = ap (λ i. 2 ^ i) p.sizes in
    record {
      m = n;
      k = p.k;
      within = omega (arith, block_within p.m p.j p.k p.below, length-truth_bits v t h, power, whole, ap (λ i. p.k * i) power);
      block = sym e ∙ (p.bits ∙ ap (λ i. take i (drop (p.k * i) (truth_bits t))) power);
      differs = halves_differ n q.1 q.2 s q.5 q.6 q.7 (sym (ap truth_bits q.4) ∙ e);
    }

-- a block of 2^m bits that lies within 2^v bits
block_below : (v m k : ℕ) → (k + 1) * 2 ^ m ≤ 2 ^ v → (j : ℕ) × (m + j ≡ v) × (k < 2 ^ j)
block_below v m k h =
    elim (cases_lt v m) [
      | inl less ↦
          let p = pow-lt less in
          let q : 1 * 2 ^ m ≤ (k + 1) * 2 ^ m = mul-le-mul_right (2 ^ m) (omega arith) in
          absurd (omega (arith, p, q, h))
      | inr more ↦
          let e : m + (v - m) ≡ v = omega arith in
          let power : 2 ^ v ≡ 2 ^ m * 2 ^ (v - m) = sym (ap (λ i. 2 ^ i) e) ∙ pow-add 2 m (v - m) in
          let q : 2 ^ m * (k + 1) ≤ 2 ^ m * 2 ^ (v - m) = omega (arith, h, power) in
          let r = le_of_mul-le-mul_left q (pow_pos m) in
          (v - m, e, omega (arith, r))
    ]

bead_from_bits : (m : ℕ) (b : Truth) → IsTruthTable (suc m) b → take (2 ^ m) (truth_bits b) ≢ drop (2 ^ m) (truth_bits b) → IsBead b
bead_from_bits m (Bit x) h differ = h
bead_from_bits m (Halves lo hi) h differ = λ e.
    let long = length-truth_bits m lo h.0 in
    differ (take_at (truth_bits lo) (truth_bits hi) (2 ^ m) long ∙ (ap truth_bits e ∙ sym (drop_at (truth_bits lo) (truth_bits hi) (2 ^ m) long)))

bead_from_block : (m : ℕ) (b : Truth) → IsTruthTable (m + 1) b → take (2 ^ m) (truth_bits b) ≢ drop (2 ^ m) (truth_bits b) → IsBead b
bead_from_block m b h = bead_from_bits m b (rw add-one at h)

bead_of_block : (v : ℕ) (t : Truth) (s : List Bool) → IsTruthTable v t → IsAlignedBead s (truth_bits t) → (b : Truth) × IsBeadOf b t × (truth_bits b ≡ s)
bead_of_block v t s h a =
    let place = block_below v (a.m + 1) a.k (omega (arith, a.within, length-truth_bits v t h)) in
    let sub = subtable_at place.0 (a.m + 1) a.k t (subst (λ i. IsTruthTable i t) (sym place.1) h) place.2 in
    let same : truth_bits sub.0 ≡ s = sub.3 ∙ sym a.block in
    (sub.0, (sub.2, bead_from_block a.m sub.0 sub.1 (λ e. a.differs (subst (λ bits. take (2 ^ a.m) bits ≡ drop (2 ^ a.m) bits) same e))), same)

-- the beads of a table are the aligned blocks of its bits whose halves differ
pub beads_are_blocks : (v : ℕ) (t : Truth) (s : List Bool) → IsTruthTable v t → (IsAlignedBead s (truth_bits t) ↔ ((b : Truth) × IsBeadOf b t × (truth_bits b ≡ s)))
beads_are_blocks v t s h = (bead_of_block v t s h, λ found. block_of_bead v t found.0 s h found.1 found.2)

pow_same : (m n : ℕ) → 2 ^ m ≡ 2 ^ n → m ≡ n
pow_same m n e =
    elim (cases_order m n) [
      | inl same ↦ same
      | inr other ↦ elim other [ inl less ↦ absurd (let p = pow-lt less in omega (arith, p, e)) | inr more ↦ absurd (let p = pow-lt more in omega (arith, p, e)) ]
    ]

-- beads with the same bits are one bead
pub blocks_fix_bead : (v w : ℕ) (t u b c : Truth) → IsTruthTable v t → IsTruthTable w u → IsBeadOf b t → IsBeadOf c u → truth_bits b ≡ truth_bits c → b ≡ c
blocks_fix_bead v w t u b c h k bead other e =
    let p = place_of v b t h bead.0 in
    let q = place_of w c u k other.0 in
    let same : p.m ≡ q.m = pow_same p.m q.m (sym (length-truth_bits p.m b p.isTable) ∙ (ap length e ∙ length-truth_bits q.m c q.isTable)) in
    bits_fix_table p.m b c p.isTable (subst (λ i. IsTruthTable i c) (sym same) q.isTable) e
